-- What the loop of `oracles::ell_factors::scale_into` keeps: the entries below i are written.
use Rattle.numbers.specs.F64.{◌⊗◌}
use Rattle.oracles.specs.Matrix.{nth, at}
use Rattle.oracles.specs.laws.Loop.{VectorOf, swept}
use Rattle.oracles.proofs.ell_factors.scale_into.Given as goal

abbrev pub invariant-loop-i : goal.invariant-loop-i
invariant-loop-i l = VectorOf l.mq.n (swept (λ k. nth l.w k ⊗ at l.mq.n l.mq.entries.now k k) (λ k. nth l.initial.z k) l.i) l.z
