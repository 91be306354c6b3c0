-- `numbers::ell_calc::EllCalc::calc_single_or_parallel_bias_cut` meets its contract. Assumes nothing.
use Rattle.numbers.specs.EllCalc.{calc_single_or_parallel_bias_cut}
use Rattle.numbers.proofs.ell_calc.EllCalc.calc_single_or_parallel_bias_cut.Goals as goal

pub returns-in-Parallel : goal.returns-in-Parallel
unfolding calc_single_or_parallel_bias_cut
returns-in-Parallel c = rw c.in-Parallel.is c.calc_parallel_bias_cut.ensures

pub returns-in-Single : goal.returns-in-Single
unfolding calc_single_or_parallel_bias_cut
returns-in-Single c = rw c.in-Single.is c.calc_bias_cut.ensures
