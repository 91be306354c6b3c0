-- `oracles::ell_factors::backward` meets its contract. Assumes nothing.
use Prim.Native.Nat.{◌-◌}
use borrow.Author.Rules.{rules}
use Rattle.oracles.proofs.ell_factors.Laws.{back_rows_start, back_rows_turn}
use Rattle.oracles.proofs.ell_factors.backward.Goals as goal

pub loop-i-init : goal.loop-i-init
loop-i-init c =
    let a = c.args in
    (search rules, back_rows_start a.mq.n a.mq.entries.now a.q.now (search rules) (search rules))

pub loop-i-preserved : goal.loop-i-preserved
loop-i-preserved c =
    let l = c.loop-i in
    let a = c.args in
    (search rules, rw c.backward_row.ensures (back_rows_turn a.mq.n a.mq.entries.now a.q.now l.q l.i (l.i - 1) (search rules) (search rules) (search rules) l.invariant.1))
