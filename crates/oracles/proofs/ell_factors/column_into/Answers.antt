-- `oracles::ell_factors::column_into` meets its contract. Assumes nothing.
use Prim.Native.Nat.{◌+◌, ◌-◌, ◌*◌}
use mathlib.Core.Path.{◌≡◌}
use native.Mathlib.Omega.{arith}
use Rattle.numbers.specs.laws.Arr.{filled_start, filled_turn}
use Rattle.oracles.proofs.ell_factors.Laws.{column_two, column_done}
use Rattle.oracles.proofs.ell_factors.column_into.Goals as goal

pub loop-k-init : goal.loop-k-init
loop-k-init c = filled_start _ _

pub loop-k-preserved : goal.loop-k-preserved
loop-k-preserved c =
    let l = c.loop-k in
    let e : 2 * (l.k + 1) ≡ 2 * l.k + 2 = omega arith in
    rw e (column_two _ _ l.column (2 * l.k) _ _ l.invariant (omega arith) c.at.ensures c.at-in-loop-k.ensures)

pub returns-then-i-eq1 : goal.returns-then-i-eq1
returns-then-i-eq1 c =
    let l = c.loop-k in
    let e : 2 * l.k ≡ c.args.i - 1 = omega arith in
    column_done _ _ _ _ (c.args.i - 1 + 1) (filled_turn _ _ l.column (c.args.i - 1) _ (rw e at l.invariant) (omega arith) c.at-then-i-eq1.ensures) (omega arith)
