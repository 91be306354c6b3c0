-- `ponduvizh::jobs::ponduvizh_read_job` meets its contract. Assumes nothing.
use Rattle.ponduvizh.proofs.jobs.Laws.{read_law}
use borrow.Author.Rules.{rules}
use Rattle.ponduvizh.proofs.jobs.ponduvizh_read_job.Goals as goal

pub returns : goal.returns
returns c = search (rules, read_law)
