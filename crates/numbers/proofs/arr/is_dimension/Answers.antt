-- `numbers::arr::is_dimension` meets its contract. Assumes nothing.
use borrow.Author.Tests.{lt-leb, le-leb}
use Rattle.numbers.proofs.arr.is_dimension.Goals as goal

pub returns-then-n-ge2 : goal.returns-then-n-ge2
returns-then-n-ge2 c = rw (le-leb 2 c.args.n c.if-n-ge2.true)

pub returns-else-n-ge2 : goal.returns-else-n-ge2
returns-else-n-ge2 c = rw (lt-leb 2 c.args.n c.if-n-ge2.false)
