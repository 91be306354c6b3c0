-- `numbers::ell_calc::EllCalc::calc_central_cut` meets its contract.
use mathlib.Core.Path.{ap}
use Rattle.numbers.specs.Cut.{success}
use Rattle.numbers.specs.EllCalc.{calc_central_cut}
use Rattle.numbers.proofs.ell_calc.EllCalc.calc_central_cut.Goals as goal

pub returns : goal.returns
unfolding calc_central_cut
returns c = ap success c.calc_central_cut.ensures
