-- `ponduvizh::run_numbers::put_answer` meets its contract. Assumes nothing.
use borrow.Author.Rules.{rules}
use Rattle.ponduvizh.specs.ExportedRuns.{answer_of}
use Rattle.ponduvizh.proofs.run_numbers.put_answer.Goals as goal

pub returns : goal.returns
unfolding answer_of
returns c = search rules
