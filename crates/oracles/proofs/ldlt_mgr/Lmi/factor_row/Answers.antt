-- `oracles::ldlt_mgr::Lmi::factor_row` meets its contract. Assumes nothing.
use borrow.Author.Rules.{rules}
use Rattle.oracles.proofs.ldlt_mgr.Laws.{row_start, row_turn, pivot_done, row_done}
use Rattle.oracles.proofs.ldlt_mgr.Lmi.factor_row.Goals as goal

pub loop-j-init : goal.loop-j-init
loop-j-init c = row_start _ _ _ _ _ c.requires.2 c.get_elem-diag.ensures

pub loop-j-preserved : goal.loop-j-preserved
loop-j-preserved c =
    row_turn _ _ _ _ _ _ _ _ c.loop-j.invariant (search rules) (search rules) (search rules) c.at-pivot.ensures _
    (rw (c.get_elem.ensures, c.row_sum.ensures))

pub returns : goal.returns
returns c =
    let h = c.loop-j.invariant in
    (pivot_done _ _ _ _ _ _ _ h (search rules) (search rules) (search rules), row_done _ _ _ _ _ _ _ h (search rules) (search rules) (search rules))
