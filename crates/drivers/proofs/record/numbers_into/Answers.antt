-- `drivers::record::numbers_into` meets its contract. Assumes nothing.
use Rattle.numbers.specs.laws.Arr.{filled_start, filled_turn, filled_done}
use borrow.Author.Rules.{rules}
use Rattle.drivers.proofs.record.numbers_into.Goals as goal

pub loop-k-init : goal.loop-k-init
loop-k-init c = filled_start _ _

pub loop-k-preserved : goal.loop-k-preserved
loop-k-preserved c =
    let l = c.loop-k in
    filled_turn _ _ l.out l.k _ l.invariant (search rules) c.number_at.ensures

pub returns : goal.returns
returns c =
    let l = c.loop-k in
    filled_done _ _ l.out l.k l.invariant (search rules)
