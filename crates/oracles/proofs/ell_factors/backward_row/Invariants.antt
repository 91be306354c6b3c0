-- What the loop of `oracles::ell_factors::backward_row` keeps: the products of row i before column j are subtracted.
use Prim.Native.Nat.{◌+◌}
use Rattle.numbers.specs.F64.{◌⊖◌, ◌⊗◌}
use Rattle.oracles.specs.Matrix.{nth, at}
use Rattle.oracles.specs.laws.Matrix.{SummedFrom}
use Rattle.oracles.proofs.ell_factors.backward_row.Given as goal

abbrev pub invariant-loop-j : goal.invariant-loop-j
invariant-loop-j l = SummedFrom ◌⊖◌ (nth l.q l.i) (λ k. at l.mq.n l.mq.entries.now l.i k ⊗ nth l.q k) (l.i + 1) l.mq.n l.s l.j
