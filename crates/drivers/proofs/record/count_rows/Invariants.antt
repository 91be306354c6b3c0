-- What the loop of `drivers::record::count_rows` keeps: the rows so far and those that are left make the answer.
use mathlib.Core.Path.{◌≡◌}
use Prim.Native.Nat.{◌+◌}
use Rattle.drivers.specs.Record.{fields_of, row_count}
use Rattle.drivers.specs.laws.Record.{fields_after}
use Rattle.drivers.proofs.record.count_rows.Given as goal

abbrev pub invariant-loop-at : goal.invariant-loop-at
invariant-loop-at l = l.rows + row_count l.bytes (fields_after l.at-iterator.bytes.now l.at-iterator.at) ≡ row_count l.bytes (fields_of l.bytes)
