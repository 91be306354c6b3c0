-- `oracles::ell::mirror` meets its contract. Assumes nothing.
use borrow.Author.Rules.{rules}
use Rattle.oracles.proofs.ell.Laws.{columns_start, columns_turn, columns_done}
use Rattle.oracles.proofs.ell.mirror.Goals as goal

pub loop-i-init : goal.loop-i-init
loop-i-init c = columns_start _ _ (search rules)

pub loop-i-preserved : goal.loop-i-preserved
loop-i-preserved c =
    let l = c.loop-i in
    let a = c.args in
    rw c.mirror_row.ensures (columns_turn a.n l.i a.mq.now l.mq l.invariant (search rules))

pub returns : goal.returns
returns c =
    let l = c.loop-i in
    let a = c.args in
    columns_done a.n l.i a.mq.now l.mq l.invariant (search rules)
