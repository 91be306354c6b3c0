-- `numbers::ell_calc::EllCalc::new` meets its contract. Assumes nothing.
use Rattle.numbers.specs.EllCalc.{made, new_answer}
use Rattle.numbers.specs.laws.Refusal.{exits, accepts, asked_fault, asked_sound}
use Rattle.numbers.proofs.ell_calc.EllCalc.new.Goals as goal

pub returns-in_err-dimension : goal.returns-in_err-dimension
unfolding new_answer
returns-in_err-dimension c = exits (λ r. r) _ _ c.from_residual.ensures.1 (asked_fault _ _ c.dimension.ensures.value c.in_err-dimension.was)

pub returns : goal.returns
unfolding new_answer made
returns c = accepts _ _ _ (asked_sound _ _ c.dimension.ensures.value c.in_ok-dimension.was) (rw c.new-helper.ensures)
