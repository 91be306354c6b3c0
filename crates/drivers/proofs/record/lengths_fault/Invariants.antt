-- What the loop of `drivers::record::lengths_fault` keeps: the fields that are left give the answer.
use Rattle.std.specs.Prelude.{◌≡◌}
use Rattle.drivers.specs.Record.{fields_of, lengths_fault}
use Rattle.drivers.specs.laws.Record.{fields_after}
use Rattle.drivers.proofs.record.lengths_fault.Given as goal

abbrev pub invariant-loop-at : goal.invariant-loop-at
invariant-loop-at l = lengths_fault l.n l.bytes (fields_after l.at-iterator.bytes.now l.at-iterator.at) ≡ lengths_fault l.n l.bytes (fields_of l.bytes)
