-- `ponduvizh::run_numbers::put_marks` meets its contract. Assumes nothing.
use borrow.Author.Rules.{rules}
use Rattle.ponduvizh.specs.ExportedRuns.{marks_of}
use Rattle.ponduvizh.proofs.run_numbers.put_marks.Goals as goal

pub returns : goal.returns
unfolding marks_of
returns c = search rules
