-- `ponduvizh::run_numbers::put_run` meets its contract. Assumes nothing.
use Rattle.ponduvizh.proofs.run_numbers.Laws.{run_ended, run_halted, run_refused}
use borrow.Author.Rules.{rules}
use Rattle.ponduvizh.proofs.run_numbers.put_run.Goals as goal

pub returns-in-Refused : goal.returns-in-Refused
returns-in-Refused c = search (rules, run_refused)

pub returns-in-Halted : goal.returns-in-Halted
returns-in-Halted c = search (rules, run_halted)

pub returns-in-Ok : goal.returns-in-Ok
returns-in-Ok c = search (rules, run_ended)
