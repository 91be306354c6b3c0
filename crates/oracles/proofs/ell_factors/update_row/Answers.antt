-- `oracles::ell_factors::update_row` meets its contract. Assumes nothing.
use mathlib.Core.Path.{refl, ◌∙◌}
use native.Mathlib.Omega.{arith}
use borrow.Author.Rules.{rules}
use borrow.Author.Tests.{eq-eqb, ne_eqb}
use lib.Dec.{eqb}
use lib.ListN.{length-set}
use Rattle.oracles.specs.laws.Loop.{sweep_start, sweep_left, sweep_turn, sweep_done}
use Rattle.oracles.proofs.ell_factors.Laws.{row_done}
use Rattle.numbers.specs.laws.Pick.{hit, skip}
use Rattle.oracles.proofs.ell_factors.update_row.Goals as goal

pub loop-l-init : goal.loop-l-init
loop-l-init c = sweep_start _ _ _ 1 _ (rw length-set (search rules)) (λ k b. refl) (λ k b. hit (eqb k 0) _ _ _ (eq-eqb k 0 (omega (arith, b))) refl)

pub loop-l-preserved : goal.loop-l-preserved
loop-l-preserved c =
    let l = c.loop-l in sweep_turn _ _ _ l.l l.row l.invariant _ (search rules)
    (skip (eqb l.l 0) _ _ _ (ne_eqb l.l 0 (λ q. absurd (omega (arith, q)))) (rw (sweep_left _ _ _ l.l l.row l.invariant l.l (omega arith) (search rules))))

pub returns : goal.returns
returns c =
    let l = c.loop-l in
    let a = c.args in
    sweep_done _ _ _ l.l l.row l.invariant (λ k b g. absurd (omega arith))
    ∙ row_done a.row.now a.ratio a.beta2 a.v.now (search rules) (search rules)
