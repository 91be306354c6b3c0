-- `numbers::ell_calc_core::EllCalcCore::calc_parallel_bias_cut_fast` meets its contract. Assumes nothing.
use Rattle.numbers.specs.EllCalcCore.{core_parallel_bias_cut_fast}
use Rattle.numbers.proofs.ell_calc_core.EllCalcCore.calc_parallel_bias_cut_fast.Goals as goal

pub returns : goal.returns
unfolding core_parallel_bias_cut_fast
returns c = rw c.sqrt-xi.ensures.value
