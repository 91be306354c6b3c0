-- What the loop of `oracles::ldlt_mgr::quad` keeps: the rows below i are added.
use Rattle.numbers.specs.F64.{◌⊕◌, 0ᶠ}
use Rattle.oracles.specs.LdltMgr.{quad_term}
use Rattle.oracles.specs.laws.Matrix.{SummedFrom}
use Rattle.oracles.proofs.ldlt_mgr.quad.Given as goal

abbrev pub invariant-loop-i : goal.invariant-loop-i
invariant-loop-i l = SummedFrom ◌⊕◌ 0ᶠ (quad_term l.mat.n l.wit l.mat.entries.now l.end) l.fn.pos.start l.end l.result l.i
