-- `numbers::ell_calc_core::EllCalcCore::calc_parallel_bias_cut` meets its contract. Assumes nothing.
use Rattle.numbers.specs.EllCalcCore.{core_parallel_bias_cut}
use Rattle.numbers.proofs.ell_calc_core.EllCalcCore.calc_parallel_bias_cut.Goals as goal

pub returns : goal.returns
unfolding core_parallel_bias_cut
returns c = c.calc_parallel_bias_cut_fast.ensures
