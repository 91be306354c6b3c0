-- `numbers::ell_calc::EllCalc::calc_bias_cut_q` meets its contract.
use mathlib.Core.Path.{refl, ap}
use Rattle.numbers.specs.Cut.{success}
use Rattle.numbers.specs.EllCalc.{calc_bias_cut_q}
use Rattle.numbers.specs.laws.Pick.{hit, skip}
use Rattle.numbers.proofs.ell_calc.EllCalc.calc_bias_cut_q.Goals as goal

pub returns-then-tau-beta : goal.returns-then-tau-beta
unfolding calc_bias_cut_q
returns-then-tau-beta c = rw (← c.sqrt-tau.ensures.value) (hit _ _ _ _ c.if-tau-beta.true refl)

pub returns-then-eta : goal.returns-then-eta
unfolding calc_bias_cut_q
returns-then-eta c = rw (← c.sqrt-tau.ensures.value) (skip _ _ _ _ c.if-tau-beta.false (hit _ _ _ _ c.if-eta.true refl))

pub returns : goal.returns
unfolding calc_bias_cut_q
returns c = rw (← c.sqrt-tau.ensures.value) (skip _ _ _ _ c.if-tau-beta.false (skip _ _ _ _ c.if-eta.false (ap success c.calc_bias_cut_fast.ensures)))
