-- What the loop of `oracles::ldlt_mgr::quad_row` keeps: the columns below j are added.
use Prim.Native.Nat.{◌+◌}
use Rattle.numbers.specs.F64.{◌⊕◌, ◌⊗◌, 0ᶠ}
use Rattle.oracles.specs.Matrix.{nth, at}
use Rattle.oracles.specs.laws.Matrix.{SummedFrom}
use Rattle.oracles.proofs.ldlt_mgr.quad_row.Given as goal

abbrev pub invariant-loop-j : goal.invariant-loop-j
invariant-loop-j l = SummedFrom ◌⊕◌ 0ᶠ (λ k. at l.mat.n l.mat.entries.now l.i k ⊗ nth l.wit k) (l.i + 1) l.end l.s l.j
