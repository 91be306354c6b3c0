-- `ponduvizh::jobs::put_job` meets its contract. Assumes nothing.
use Rattle.ponduvizh.proofs.jobs.Laws.{put_law}
use borrow.Author.Rules.{rules}
use Rattle.ponduvizh.proofs.jobs.put_job.Goals as goal

pub returns : goal.returns
returns c = search (rules, put_law)
