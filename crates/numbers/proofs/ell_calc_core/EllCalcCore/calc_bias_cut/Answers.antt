-- `numbers::ell_calc_core::EllCalcCore::calc_bias_cut` meets its contract. Assumes nothing.
use Rattle.numbers.specs.EllCalcCore.{core_bias_cut}
use Rattle.numbers.proofs.ell_calc_core.EllCalcCore.calc_bias_cut.Goals as goal

pub returns : goal.returns
unfolding core_bias_cut
returns c = c.calc_bias_cut_fast.ensures
