-- What the loop of `oracles::ell_factors::rank_one` keeps: the rows below j are done, and their columns taken from v. Row j is lent from its diagonal on.
use mathlib.Core.Path.{◌≡◌}
use Rattle.oracles.specs.laws.Loop.{VectorOf, MatrixOf}
use Rattle.oracles.specs.laws.EllStable.{t_after}
use Rattle.oracles.proofs.ell_factors.Laws.{factored_to, columns_to}
use Rattle.oracles.proofs.ell_factors.rank_one.Given as goal

abbrev pub invariant-loop-j : goal.invariant-loop-j
invariant-loop-j l = MatrixOf l.n (factored_to l.n l.initial.mq l.z l.initial.v l.t0 l.j) l.mq × VectorOf l.n (columns_to l.n l.initial.mq l.initial.v l.j) l.v × (l.oldt ≡ t_after l.n l.initial.mq l.z l.initial.v l.t0 l.j)
