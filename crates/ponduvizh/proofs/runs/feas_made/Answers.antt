-- `ponduvizh::runs::feas_made` meets its contract. Assumes nothing.
use Rattle.ponduvizh.proofs.runs.Laws.{feas_law}
use borrow.Author.Rules.{rules}
use Rattle.ponduvizh.proofs.runs.feas_made.Goals as goal

pub returns : goal.returns
returns c = search (rules, feas_law)
