-- What the loop of `oracles::ell_factors::take_column` keeps: the column is taken from the entries below l.
use lib.Dec.{ltb}
use Rattle.numbers.specs.F64.{◌⊖◌}
use Rattle.numbers.specs.Pick.{pick}
use Rattle.oracles.specs.Matrix.{nth, at}
use Rattle.oracles.specs.laws.Loop.{VectorOf, swept}
use Rattle.oracles.proofs.ell_factors.take_column.Given as goal

abbrev pub invariant-loop-l : goal.invariant-loop-l
invariant-loop-l l = VectorOf l.mq.n (swept (λ k. pick (ltb l.j k) (nth l.initial.v k ⊖ at l.mq.n l.mq.entries.now k l.j) (nth l.initial.v k)) (λ k. nth l.initial.v k) l.l) l.v
