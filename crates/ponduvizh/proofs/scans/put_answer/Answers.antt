-- `ponduvizh::scans::put_answer` meets its contract. Assumes nothing.
use Rattle.ponduvizh.proofs.scans.Laws.{was_scanned, was_refused}
use borrow.Author.Rules.{rules}
use Rattle.ponduvizh.proofs.scans.put_answer.Goals as goal

pub returns-in-Err : goal.returns-in-Err
returns-in-Err c = search (rules, was_refused)

pub returns-in-Ok : goal.returns-in-Ok
returns-in-Ok c = search (rules, was_scanned)
