-- `drivers::job::row_end` meets its contract. Assumes nothing.
use mathlib.Core.Path.{◌≡◌, refl, sym, ◌∙◌}
use mathlib.Core.Bool.{Bool, true, false}
use Prim.Native.Nat.{ℕ, ◌<◌}
use native.Mathlib.Omega.{arith}
use borrow.Author.Tests.{leb-true}
use lib.Dec.{leb}
use mir.Syntax.{w32}
use mir.Val.{to_z}
use Rattle.numbers.specs.laws.Pick.{hit, skip, and_parts}
use Rattle.oracles.specs.Scan.{none}
use Rattle.oracles.specs.Table.{is_rows}
use Rattle.drivers.specs.Job.{row_end}
use Rattle.drivers.proofs.job.Signs.{half_fits, reads_half}
use Rattle.drivers.proofs.job.row_end.Goals as goal

module _ (rows : ℕ) (t : Bool) (e : t ≡ is_rows rows) where
  small : t ≡ true → rows < 65536
  small h = omega (arith, leb-true rows 1024 (and_parts (leb 1 rows) (leb rows 1024) (sym e ∙ h)).1)

  inside : t ≡ true → to_z w32 rows ≡ row_end rows
  inside h = hit _ _ _ _ (sym e ∙ h) (reads_half rows (small h))

  outside : t ≡ false → none ≡ row_end rows
  outside h = skip _ _ _ _ (sym e ∙ h) refl

pub overflow_cast-result : goal.overflow_cast-result
overflow_cast-result c = half_fits _ (small _ _ c.is_rows.ensures c.if-is_rows.true)

pub returns-then-is_rows : goal.returns-then-is_rows
returns-then-is_rows c = inside c.args.rows _ c.is_rows.ensures c.if-is_rows.true

pub returns : goal.returns
returns c = outside c.args.rows _ c.is_rows.ensures c.if-is_rows.false
