-- `numbers::ell_calc_core::EllCalcCore::calc_bias_cut_fast` meets its contract. Assumes nothing.
use mathlib.Core.Path.{refl}
use Rattle.numbers.specs.EllCalcCore.{core_bias_cut_fast}
use Rattle.numbers.proofs.ell_calc_core.EllCalcCore.calc_bias_cut_fast.Goals as goal

pub returns : goal.returns
unfolding core_bias_cut_fast
returns c = refl
