-- `ponduvizh::numeric::ponduvizh_dot_mv_into` meets its contract. Assumes nothing.
use Rattle.ponduvizh.proofs.numeric.Laws.{written_law}
use Rattle.ponduvizh.proofs.numeric.ponduvizh_dot_mv_into.Goals as goal

pub returns : goal.returns
returns c = written_law _ _ _ _ c.dot_mv_into.ensures c.number.ensures
