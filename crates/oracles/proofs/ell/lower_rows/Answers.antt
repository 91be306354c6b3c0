-- `oracles::ell::lower_rows` meets its contract. Assumes nothing.
use borrow.Author.Rules.{rules}
use Rattle.oracles.proofs.ell.Laws.{rows_start, rows_turn, rows_done}
use Rattle.oracles.proofs.ell.lower_rows.Goals as goal

pub loop-i-init : goal.loop-i-init
loop-i-init c =
    let a = c.args in
    rows_start a.n a.ratio a.gt.now a.mq.now (search rules)

pub loop-i-preserved : goal.loop-i-preserved
loop-i-preserved c =
    let l = c.loop-i in
    let a = c.args in
    rw c.lower_row.ensures (rows_turn a.n a.ratio a.gt.now a.mq.now l.mq l.i l.invariant (search rules))

pub returns : goal.returns
returns c =
    let l = c.loop-i in
    let a = c.args in
    rows_done a.n a.ratio a.gt.now a.mq.now l.mq l.i l.invariant (search rules)
