-- `numbers::ell_calc::EllCalc::calc_parallel_bias_cut` meets its contract. Assumes nothing.
use mathlib.Core.Path.{refl, sym, ap, ◌∙◌}
use Rattle.numbers.specs.Cut.{success}
use Rattle.numbers.specs.EllCalc.{calc_parallel_impl, calc_parallel_bias_cut}
use Rattle.numbers.specs.laws.Pick.{hit, skip}
use Rattle.numbers.proofs.ell_calc.EllCalc.calc_parallel_bias_cut.Goals as goal

pub returns-then-crossed : goal.returns-then-crossed
unfolding calc_parallel_impl calc_parallel_bias_cut
returns-then-crossed c = hit _ _ _ _ (sym c.crossed.ensures ∙ c.if-crossed.true) refl

pub returns-then-single_instead : goal.returns-then-single_instead
unfolding calc_parallel_impl calc_parallel_bias_cut
returns-then-single_instead c = skip _ _ _ _ (sym c.crossed.ensures ∙ c.if-crossed.false) (hit _ _ _ _ (sym c.single_instead.ensures ∙ c.if-single_instead.true) (skip _ _ _ _ refl c.calc_bias_cut.ensures))

pub returns : goal.returns
unfolding calc_parallel_impl calc_parallel_bias_cut
returns c = skip _ _ _ _ (sym c.crossed.ensures ∙ c.if-crossed.false) (skip _ _ _ _ (sym c.single_instead.ensures ∙ c.if-single_instead.false) (skip _ _ _ _ refl (ap success c.calc_parallel_bias_cut_fast.ensures)))
