-- What the loop of `drivers::record::missing_fault` keeps: no tag below i is missing.
use mathlib.Core.Path.{◌≡◌}
use mathlib.Core.Bool.{false}
use Prim.Native.Nat.{ℕ, ◌<◌}
use Rattle.drivers.specs.Record.{is_missing}
use Rattle.drivers.proofs.record.missing_fault.Given as goal

abbrev pub invariant-loop-i : goal.invariant-loop-i
invariant-loop-i l = (j : ℕ) → j < l.i → is_missing l.form l.places j ≡ false
