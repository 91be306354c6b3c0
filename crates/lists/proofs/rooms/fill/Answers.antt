-- `lists::rooms::fill` meets its contract.
use Rattle.std.proofs.Common.{rules}
use Rattle.lists.proofs.rooms.Laws.{fill_out, fill_given, fill_zeros}
use Rattle.lists.proofs.rooms.fill.Goals as goal

pub returns-then-s-len : goal.returns-then-s-len
returns-then-s-len c = fill_out c.args.s.now _ _ _ _ (search rules)

pub returns-then-given : goal.returns-then-given
returns-then-given c = fill_given c.args.s.now _ _ _ _ _ (search rules) c.if-given.true c.floats.ensures

pub returns-else-given : goal.returns-else-given
returns-else-given c = fill_zeros c.args.s.now _ _ _ _ _ (search rules) c.if-given.false (c.fill.ensures.after (λ y e. e))
