-- `numbers::ell_calc::EllCalc::calc_bias_cut` meets its contract.
use mathlib.Core.Path.{refl, ap}
use Rattle.numbers.specs.Cut.{success}
use Rattle.numbers.specs.EllCalc.{calc_bias_cut}
use Rattle.numbers.specs.laws.Pick.{hit, skip}
use Rattle.numbers.proofs.ell_calc.EllCalc.calc_bias_cut.Goals as goal

pub returns-then-tsq-beta : goal.returns-then-tsq-beta
unfolding calc_bias_cut
returns-then-tsq-beta c = hit _ _ _ _ c.if-tsq-beta.true refl

pub returns : goal.returns
unfolding calc_bias_cut
returns c = skip _ _ _ _ c.if-tsq-beta.false (rw (← c.sqrt-tau.ensures.value) (ap success c.calc_bias_cut.ensures))
