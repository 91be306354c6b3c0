-- `oracles::ell_factors::forward` meets its contract.
use native.Mathlib.Omega.{arith}
use borrow.Author.Rules.{rules}
use Rattle.oracles.specs.laws.Loop.{sweep_done}
use Rattle.oracles.proofs.ell_factors.Laws.{lowered_start, solved_start, lowered_turn, solved_turn, lowered_done}
use Rattle.oracles.proofs.ell_factors.forward.Goals as goal

pub loop-i-init : goal.loop-i-init
loop-i-init c =
    let a = c.args in
    (lowered_start a.n a.mq.now a.w.now (search rules), solved_start a.n a.mq.now a.w.now (search rules), search rules)

pub loop-i-preserved : goal.loop-i-preserved
loop-i-preserved c =
    let l = c.loop-i in
    let a = c.args in
    let e = c.forward_row-s.ensures in (
      lowered_turn a.n a.mq.now a.w.now l.i l.mq l.w l.invariant.0 l.invariant.1 (search rules) _ _ c.column_into.ensures _ e.1,
      solved_turn a.n a.mq.now a.w.now l.i l.mq l.w l.invariant.0 l.invariant.1 (search rules) _ _ c.column_into.ensures _ e.0,
      search rules,
    )

pub returns : goal.returns
returns c =
    let l = c.loop-i in
    let a = c.args in (
      lowered_done a.n a.mq.now a.w.now l.i l.mq l.invariant.0 (search rules),
      sweep_done _ _ _ l.i l.w l.invariant.1 (λ k b g. absurd (omega arith)),
    )
