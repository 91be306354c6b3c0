-- `drivers::job::fill_table` meets its contract. Assumes nothing.
use borrow.Author.Rules.{rules}
use Rattle.drivers.proofs.job.Filling.{starts, fits, turn, done}
use Rattle.drivers.proofs.job.fill_table.Goals as goal

pub loop-at-preserved : goal.loop-at-preserved
loop-at-preserved c = turn _ _ _ _ _ _ c.loop-at.invariant _ _ c.in-Some.ensures.steps _ c.fill_row-k.ensures

pub loop-at-init : goal.loop-at-init
loop-at-init c = starts c.args.bytes.now c.args.n c.args.table.now _ (search rules) c.requires.1

pub fill_row-k-requires : goal.fill_row-k-requires
fill_row-k-requires c = (search rules, fits _ _ _ _ _ _ c.loop-at.invariant _ _ c.in-Some.ensures.steps)

pub returns : goal.returns
returns c = done _ _ _ _ _ _ c.loop-at.invariant c.in-None.ensures.steps.0
