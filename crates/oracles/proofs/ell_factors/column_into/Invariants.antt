-- What the loop of `oracles::ell_factors::column_into` keeps: the entries below j are written.
use Prim.Native.Nat.{◌*◌}
use Rattle.numbers.specs.laws.Arr.{FilledTo}
use Rattle.oracles.specs.Matrix.{at}
use Rattle.oracles.proofs.ell_factors.column_into.Given as goal

abbrev pub invariant-loop-k : goal.invariant-loop-k
invariant-loop-k l = FilledTo (λ k. at l.mq.n l.mq.entries.now k l.i) l.initial.column l.column (2 * l.k)
