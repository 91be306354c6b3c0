-- `oracles::ell::mirror_row` meets its contract. Assumes nothing.
use borrow.Author.Rules.{rules}
use Rattle.oracles.proofs.ell.Laws.{mirror_start, mirror_turn, mirror_done}
use Rattle.oracles.proofs.ell.mirror_row.Goals as goal

pub loop-j-init : goal.loop-j-init
loop-j-init c = mirror_start _ _ _ (search rules)

pub loop-j-preserved : goal.loop-j-preserved
loop-j-preserved c =
    let l = c.loop-j in
    let a = c.args in
    mirror_turn a.n a.i l.j a.mq.now l.mq _ l.invariant c.at-entry.ensures (search rules) (search rules)

pub returns : goal.returns
returns c =
    let l = c.loop-j in
    let a = c.args in
    mirror_done a.n a.i l.j a.mq.now l.mq l.invariant (search rules)
