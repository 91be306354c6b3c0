-- `oracles::ell::lower_row` meets its contract. Assumes nothing.
use mathlib.Core.Path.{refl}
use native.Mathlib.Omega.{arith}
use borrow.Author.Rules.{rules}
use borrow.Author.Tests.{le-leb, lt-leb}
use lib.Dec.{leb}
use Rattle.numbers.specs.laws.Pick.{hit, skip}
use Rattle.oracles.specs.laws.Loop.{sweep_zero, sweep_turn, sweep_left, sweep_done}
use Rattle.oracles.specs.laws.Ell.{row_lowered}
use Rattle.oracles.proofs.ell.lower_row.Goals as goal

pub loop-j-init : goal.loop-j-init
loop-j-init c = sweep_zero _ _ _ refl

pub loop-j-preserved : goal.loop-j-preserved
loop-j-preserved c =
    let l = c.loop-j in sweep_turn _ _ _ l.j l.row l.invariant _ (search rules)
    (hit (leb l.j _) _ _ _ (le-leb l.j _ (omega arith)) (rw (sweep_left _ _ _ l.j l.row l.invariant l.j (omega arith) (search rules))))

pub returns : goal.returns
unfolding row_lowered
returns c =
    let l = c.loop-j in
    sweep_done _ _ _ l.j l.row l.invariant (λ k b g. skip (leb k _) _ _ _ (lt-leb k _ (omega arith)) refl)
