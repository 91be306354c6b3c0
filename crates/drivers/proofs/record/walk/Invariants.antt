-- What the loop of `drivers::record::walk` keeps: at each turn what is left computes the answer.
use mathlib.Core.Path.{◌≡◌}
use Rattle.drivers.specs.Record.{fields_of, walk_of}
use Rattle.drivers.specs.laws.Record.{fields_after}
use Rattle.drivers.proofs.record.walk.Given as goal

abbrev pub invariant-loop-at : goal.invariant-loop-at
invariant-loop-at l =
    walk_of l.bytes l.form (fields_after l.at-iterator.bytes.now l.at-iterator.at) l.places ≡ walk_of l.bytes l.form (fields_of l.bytes) l.initial.places
