-- `ponduvizh::numeric::ponduvizh_factor` meets its contract. Assumes nothing.
use Rattle.ponduvizh.proofs.numeric.Laws.{factored_law}
use Rattle.ponduvizh.proofs.numeric.ponduvizh_factor.Goals as goal

pub returns : goal.returns
returns c = factored_law _ _ _ _ _ _ c.factor-answer.ensures c.number.ensures c.factored_end.ensures
