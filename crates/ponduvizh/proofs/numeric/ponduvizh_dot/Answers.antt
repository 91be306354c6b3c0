-- `ponduvizh::numeric::ponduvizh_dot` meets its contract. Assumes nothing.
use Rattle.ponduvizh.proofs.numeric.Laws.{number_law}
use Rattle.ponduvizh.proofs.numeric.ponduvizh_dot.Goals as goal

pub returns : goal.returns
returns c = number_law _ _ _ _ _ c.dot-answer.ensures c.number.ensures c.unwrap_or.ensures
