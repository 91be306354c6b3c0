-- `lists::tally::Tally::count` meets its contract.
use Rattle.std.proofs.Common.{rules}
use Rattle.lists.specs.Tally.{agreeing, differing}
use Rattle.lists.proofs.tally.Laws.{tally_over, tally_under, both}
use Rattle.lists.proofs.tally.Tally.count.Goals as goal

pub returns-then-op-ge256 : goal.returns-then-op-ge256
returns-then-op-ge256 c = tally_over _ _ _ _ (search rules) (search rules)

pub returns-in-Agrees : goal.returns-in-Agrees
returns-in-Agrees c = tally_under _ _ _ _ _ (search rules) c.in-Agrees.is (both c.args.self.now _ agreeing _ _ c.agrees.ensures c.agrees-self.ensures)

pub returns-in-Differs : goal.returns-in-Differs
returns-in-Differs c = tally_under _ _ _ _ _ (search rules) c.in-Differs.is (both c.args.self.now _ differing _ _ c.differs.ensures c.differs-self.ensures)

pub returns-in-Unknown : goal.returns-in-Unknown
returns-in-Unknown c = tally_under _ _ _ _ _ (search rules) c.in-Unknown.is (search rules)
