-- `oracles::ldlt_mgr::quad` meets its contract. Assumes nothing.
use borrow.Author.Rules.{rules}
use Rattle.oracles.specs.LdltMgr.{quad_of}
use Rattle.oracles.specs.laws.Matrix.{from_start, from_turn, from_done}
use Rattle.oracles.proofs.ldlt_mgr.quad.Goals as goal

pub loop-i-init : goal.loop-i-init
loop-i-init c = from_start _ _ _ _ _ (search rules)

pub loop-i-preserved : goal.loop-i-preserved
loop-i-preserved c =
    let l = c.loop-i in
    from_turn _ _ _ _ _ l.result l.i _ l.invariant (search rules) c.quad_row-result.ensures

pub returns : goal.returns
unfolding quad_of
returns c = let l = c.loop-i in from_done _ _ _ _ _ l.result l.i l.invariant (search rules)
