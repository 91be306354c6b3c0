-- `oracles::ldlt_mgr::quad_row` meets its contract. Assumes nothing.
use borrow.Author.Rules.{rules}
use Rattle.oracles.specs.LdltMgr.{quad_term}
use Rattle.oracles.specs.laws.Matrix.{from_start, from_turn, from_done}
use Rattle.oracles.proofs.ldlt_mgr.quad_row.Goals as goal

pub loop-j-init : goal.loop-j-init
loop-j-init c = from_start _ _ _ _ _ (search rules)

pub loop-j-preserved : goal.loop-j-preserved
loop-j-preserved c =
    let l = c.loop-j in
    from_turn _ _ _ _ _ l.s l.j _ l.invariant (search rules) (rw c.at.ensures)

pub returns : goal.returns
unfolding quad_term
returns c =
    let l = c.loop-j in
    rw (c.at-2.ensures, from_done _ _ _ _ _ l.s l.j l.invariant (search rules))
