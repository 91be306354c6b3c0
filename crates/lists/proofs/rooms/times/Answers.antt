-- `lists::rooms::times` meets its contract.
use Rattle.lists.proofs.rooms.Laws.{none, too_long, both_short}
use Rattle.lists.proofs.rooms.times.Goals as goal

pub returns-then-a-b : goal.returns-then-a-b
returns-then-a-b c = none c.args.a c.args.b c.if-a-b.true

pub returns-then-a-b-2 : goal.returns-then-a-b-2
returns-then-a-b-2 c = too_long c.args.a c.args.b c.if-a-b.false c.if-a-b-2.true

pub returns : goal.returns
returns c = both_short c.args.a c.args.b c.if-a-b.false c.if-a-b-2.false
