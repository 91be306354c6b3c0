-- `numbers::ell_calc_core::EllCalcCore::new` meets its contract. Assumes nothing.
use mathlib.Core.Path.{refl}
use Rattle.numbers.specs.EllCalcCore.{core_new}
use Rattle.numbers.proofs.ell_calc_core.EllCalcCore.new.Goals as goal

pub returns : goal.returns
unfolding core_new
returns c = refl
