-- `oracles::scan::Limits::test_row` meets its contract. Assumes nothing.
use mathlib.Core.Path.{refl}
use Prim.Native.Nat.{ℕ, ◌<◌}
use native.Mathlib.Omega.{arith}
use lib.IntN.{pos}
use mir.Syntax.{w32}
use mir.Val.{SFits}
use mir.Facts.{to_z-of_z}
use Rattle.numbers.specs.Pick.{pick}
use Rattle.numbers.specs.laws.Pick.{hit, skip}
use Rattle.oracles.proofs.Signed.{pos_fits}
use Rattle.oracles.proofs.scan.Limits.test_row.Goals as goal

row_fits : (row : ℕ) → row < 1024 → SFits w32 (pos row)
row_fits row h = pos_fits row (omega arith)

pub returns-then-over : goal.returns-then-over
returns-then-over c =
    rw (to_z-of_z c.ranges.kmax, to_z-of_z (row_fits c.args.row c.requires)) (hit _ _ _ _ c.if-over.true refl)

pub returns-then-under : goal.returns-then-under
returns-then-under c =
    rw (to_z-of_z c.ranges.kmax, to_z-of_z (row_fits c.args.row c.requires)) (skip _ _ _ _ c.if-over.false (hit _ _ _ _ c.if-under.true refl))

pub returns-then-value-fmax : goal.returns-then-value-fmax
unfolding pick
returns-then-value-fmax c =
    rw (to_z-of_z (row_fits c.args.row c.requires)) (skip _ _ _ _ c.if-over.false (skip _ _ _ _ c.if-under.false (rw c.if-value-fmax.true)))

pub returns : goal.returns
unfolding pick
returns c =
    rw (to_z-of_z c.ranges.kmax, to_z-of_z (row_fits c.args.row c.requires)) (skip _ _ _ _ c.if-over.false (skip _ _ _ _ c.if-under.false (rw c.if-value-fmax.false)))
