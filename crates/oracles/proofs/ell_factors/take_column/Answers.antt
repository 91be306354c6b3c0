-- `oracles::ell_factors::take_column` meets its contract. Assumes nothing.
use mathlib.Core.Path.{refl}
use native.Mathlib.Omega.{arith}
use borrow.Author.Rules.{rules}
use borrow.Author.Tests.{lt-ltb, le-ltb}
use lib.Dec.{ltb}
use Rattle.numbers.specs.laws.Pick.{hit, skip}
use Rattle.oracles.specs.laws.Loop.{sweep_start, sweep_turn, sweep_left, sweep_done}
use Rattle.oracles.specs.laws.EllStable.{column_taken}
use Rattle.oracles.proofs.ell_factors.take_column.Goals as goal

pub loop-l-init : goal.loop-l-init
loop-l-init c = sweep_start _ _ _ _ _ (search rules) (λ k b. refl) (λ k b. skip (ltb _ k) _ _ _ (le-ltb _ k (omega (arith, b))) refl)

pub loop-l-preserved : goal.loop-l-preserved
loop-l-preserved c =
    let l = c.loop-l in
    let a = c.args in sweep_turn _ _ _ l.l l.v l.invariant _ (search rules)
    (hit (ltb a.j l.l) _ _ _ (lt-ltb a.j l.l (search rules)) (rw (c.at.ensures, sweep_left _ _ _ l.l l.v l.invariant l.l (omega arith) (search rules))))

pub returns : goal.returns
unfolding column_taken
returns c = let l = c.loop-l in sweep_done _ _ _ l.l l.v l.invariant (λ k b g. absurd (omega arith))
