-- `ponduvizh::jobs::put_answer` meets its contract. Assumes nothing.
use Rattle.ponduvizh.proofs.jobs.Laws.{was_read, was_refused}
use borrow.Author.Rules.{rules}
use Rattle.ponduvizh.proofs.jobs.put_answer.Goals as goal

pub returns-in-Err : goal.returns-in-Err
returns-in-Err c = search (rules, was_refused)

pub returns-in-Ok : goal.returns-in-Ok
returns-in-Ok c = search (rules, was_read)
