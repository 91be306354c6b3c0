-- `oracles::band_cut::gradient_into` meets its contract. Assumes nothing.
use mathlib.Core.Path.{◌≡◌}
use mathlib.Core.Bool.{Bool, true, false}
use mathlib.Core.List.{List, map}
use Prim.Native.Nat.{ℕ, ◌+◌, ◌-◌, ◌*◌}
use native.Mathlib.Omega.{arith}
use lib.ListN.{take, drop}
use lib.Ieee.{Float, neg}
use Rattle.numbers.specs.Arr.{row_of}
use Rattle.numbers.specs.laws.Pick.{hit, skip}
use Rattle.oracles.specs.Scan.{band_gradient}
use Rattle.oracles.proofs.band_cut.gradient_into.Goals as goal

-- the part that is lent is the row
row_is : (n row : ℕ) (table : List Float) → take (row * n + n - row * n) (drop (row * n) table) ≡ row_of n table row
row_is n row table = let e : row * n + n - row * n ≡ n = omega arith in rw e

copied : (n row : ℕ) (over : Bool) (table grad' : List Float) → grad' ≡ take (row * n + n - row * n) (drop (row * n) table) → over ≡ true → grad' ≡ band_gradient n table row over
unfolding band_gradient
copied n row over table grad' e o = hit over _ _ _ o (rw (row_is n row table) at e)

negated : (n row : ℕ) (over : Bool) (table grad' : List Float) → grad' ≡ map neg (take (row * n + n - row * n) (drop (row * n) table)) → over ≡ false → grad' ≡ band_gradient n table row over
unfolding band_gradient
negated n row over table grad' e o = skip over _ _ _ o (rw (row_is n row table) at e)

pub returns-then-is_over : goal.returns-then-is_over
returns-then-is_over c =
    let a = c.args in
    copied a.rows.n a.row a.is_over a.rows.table.now _ c.copy_into.ensures c.if-is_over.true

pub returns-else-is_over : goal.returns-else-is_over
returns-else-is_over c =
    let a = c.args in
    negated a.rows.n a.row a.is_over a.rows.table.now _ c.negate_into.ensures c.if-is_over.false
