-- What the loop of `oracles::ldlt_mgr::Lmi::factor_row` keeps: the columns below j of row i, and the rows below j of column i, are written.
use Rattle.oracles.specs.LdltMgr.{get_elem}
use Rattle.oracles.proofs.ldlt_mgr.Laws.{RowTo}
use Rattle.oracles.proofs.ldlt_mgr.Lmi.factor_row.Given as goal

abbrev pub invariant-loop-j : goal.invariant-loop-j
invariant-loop-j l = RowTo (get_elem l.self.m l.self.mat_b.now l.self.mat_f.now l.self.xc.now) l.self.m l.initial.storage l.i l.storage l.diag l.j
