-- `oracles::ell_factors::rank_one` meets its contract.
use mathlib.Core.Path.{refl}
use borrow.Author.Rules.{rules}
use Rattle.oracles.specs.Matrix.{total}
use Rattle.oracles.specs.laws.Loop.{by_zero}
use Rattle.oracles.specs.laws.EllStable.{t_after}
use Rattle.oracles.proofs.ell_factors.Laws.{columns_start, columns_turn, t_turn, factored_turn, factored_done, columns_done}
use Rattle.oracles.proofs.ell_factors.rank_one.Goals as goal

pub loop-j-init : goal.loop-j-init
unfolding t_after total
loop-j-init c =
    let a = c.args in
    (by_zero a.n (λ r c. r) _ a.mq.now (search rules), columns_start a.n a.mq.now a.v.now (search rules), refl)

pub loop-j-preserved : goal.loop-j-preserved
loop-j-preserved c =
    let l = c.loop-j in
    let a = c.args in
    let e = c.take_column.ensures in (
      factored_turn a.n a.mq.now a.z.now a.v.now a.t0 l.j l.mq l.v l.invariant.0 l.invariant.1 (search rules) _ e l.oldt l.invariant.2 _ _ refl c.update_row.ensures,
      columns_turn a.n a.mq.now a.z.now a.v.now a.t0 l.j l.mq l.v l.invariant.0 l.invariant.1 (search rules) _ e,
      t_turn a.n a.mq.now a.z.now a.v.now a.t0 l.j l.mq l.v l.invariant.0 l.invariant.1 (search rules) _ e l.oldt l.invariant.2,
    )

pub returns : goal.returns
returns c =
    let l = c.loop-j in
    let a = c.args in (
      factored_done a.n a.mq.now a.z.now a.v.now a.t0 l.j l.mq l.invariant.0 (search rules),
      columns_done a.n a.mq.now a.v.now l.j l.v l.invariant.1 (search rules),
    )
