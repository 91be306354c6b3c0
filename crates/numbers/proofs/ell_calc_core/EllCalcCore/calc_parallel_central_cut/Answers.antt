-- `numbers::ell_calc_core::EllCalcCore::calc_parallel_central_cut` meets its contract. Assumes nothing.
use Rattle.numbers.specs.EllCalcCore.{core_parallel_central_cut}
use Rattle.numbers.proofs.ell_calc_core.EllCalcCore.calc_parallel_central_cut.Goals as goal

pub returns : goal.returns
unfolding core_parallel_central_cut
returns c = rw c.sqrt.ensures.value
