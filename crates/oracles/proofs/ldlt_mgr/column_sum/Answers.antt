-- `oracles::ldlt_mgr::column_sum` meets its contract. Assumes nothing.
use borrow.Author.Rules.{rules}
use Rattle.oracles.specs.laws.Matrix.{from_start, from_turn}
use Rattle.oracles.proofs.ldlt_mgr.column_sum.Goals as goal

pub loop-k-init : goal.loop-k-init
loop-k-init c = from_start _ _ _ _ _ (search rules)

pub loop-k-preserved : goal.loop-k-preserved
loop-k-preserved c =
    let l = c.loop-k in
    from_turn _ _ _ _ _ l.s l.k _ l.invariant (search rules) (rw c.at.ensures)
