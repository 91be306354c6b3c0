-- `drivers::record::is_row` meets its contract. Assumes nothing.
use mathlib.Core.Path.{ap, ◌∙◌}
use Prim.Native.Nat.{ℕ}
use lib.Dec.{eqb}
use Rattle.drivers.specs.laws.Rules.{row_is}
use Rattle.drivers.proofs.record.is_row.Goals as goal

pub returns : goal.returns
returns c = ap (λ (b : ℕ). eqb b 4) c.byte_at.ensures ∙ row_is _
