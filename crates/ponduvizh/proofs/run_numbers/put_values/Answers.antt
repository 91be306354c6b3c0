-- `ponduvizh::run_numbers::put_values` meets its contract. Assumes nothing.
use borrow.Author.Rules.{rules}
use Rattle.ponduvizh.specs.ExportedRuns.{values_of}
use Rattle.ponduvizh.proofs.run_numbers.put_values.Goals as goal

pub returns : goal.returns
unfolding values_of
returns c = search rules
