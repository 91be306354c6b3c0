-- What the loop of `oracles::ldlt_mgr::column_sum` keeps: the rows below k are added.
use Prim.Native.Nat.{◌+◌}
use Rattle.numbers.specs.F64.{◌⊕◌, ◌⊗◌, 0ᶠ}
use Rattle.oracles.specs.Matrix.{nth, at}
use Rattle.oracles.specs.laws.Matrix.{SummedFrom}
use Rattle.oracles.proofs.ldlt_mgr.column_sum.Given as goal

abbrev pub invariant-loop-k : goal.invariant-loop-k
invariant-loop-k l = SummedFrom ◌⊕◌ 0ᶠ (λ q. at l.storage.n l.storage.entries.now q l.i ⊗ nth l.wit q) (l.i + 1) l.end l.s l.k
