-- `ponduvizh::runs::optim_made` meets its contract. Assumes nothing.
use Rattle.ponduvizh.proofs.runs.Laws.{optim_law}
use borrow.Author.Rules.{rules}
use Rattle.ponduvizh.proofs.runs.optim_made.Goals as goal

pub returns : goal.returns
returns c = search (rules, optim_law)
