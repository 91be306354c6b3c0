-- `numbers::ell_calc::EllCalc::calc_parallel_central_cut` meets its contract.
use mathlib.Core.Path.{refl, ap}
use Rattle.numbers.specs.Cut.{success}
use Rattle.numbers.specs.EllCalc.{calc_parallel_central_cut}
use Rattle.numbers.specs.laws.Pick.{hit, skip}
use Rattle.numbers.proofs.ell_calc.EllCalc.calc_parallel_central_cut.Goals as goal
use Rattle.numbers.proofs.ell_calc.EllCalc.calc_parallel_central_cut.Goals.{then-tsq-beta1-via-then-tsq-beta1, then-tsq-beta1-via-else-tsq-beta1+then-not-self}

pub returns-then-beta1 : goal.returns-then-beta1
unfolding calc_parallel_central_cut
returns-then-beta1 c = hit _ _ _ _ c.if-beta1.true refl

pub returns-then-tsq-beta1 : goal.returns-then-tsq-beta1
unfolding calc_parallel_central_cut
returns-then-tsq-beta1 c =
    skip _ _ _ _ c.if-beta1.false
    (hit _ _ _ _
    (elim c.then-tsq-beta1.branch [
      | then-tsq-beta1-via-then-tsq-beta1 w ↦ rw w.if-tsq-beta1.true
      | then-tsq-beta1-via-else-tsq-beta1+then-not-self w ↦ rw (w.if-tsq-beta1.false, w.if-not-self.true)
    ])
    c.calc_central_cut.ensures)

pub returns : goal.returns
unfolding calc_parallel_central_cut
returns c = skip _ _ _ _ c.if-beta1.false (skip _ _ _ _ (rw (c.if-tsq-beta1.false, c.if-not-self.false)) (ap success c.calc_parallel_central_cut.ensures))
