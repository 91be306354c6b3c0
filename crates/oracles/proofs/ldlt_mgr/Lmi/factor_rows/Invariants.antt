-- What the loop of `oracles::ldlt_mgr::Lmi::factor_rows` keeps: the rows below i are written, and none of their pivots stopped it.
use Rattle.oracles.specs.LdltMgr.{get_elem}
use Rattle.oracles.proofs.ldlt_mgr.Laws.{RowsTo}
use Rattle.oracles.proofs.ldlt_mgr.Lmi.factor_rows.Given as goal

abbrev pub invariant-loop-i : goal.invariant-loop-i
invariant-loop-i l = RowsTo (get_elem l.self.m l.self.mat_b.now l.self.mat_f.now l.self.xc.now) l.self.m l.initial.storage l.storage l.i
