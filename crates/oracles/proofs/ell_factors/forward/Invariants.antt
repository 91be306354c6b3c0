-- What the loop of `oracles::ell_factors::forward` keeps: the rows below i are solved, and their products stored. Row i is lent, and comes back in its place.
use mathlib.Core.Path.{◌≡◌}
use lib.ListN.{length}
use Rattle.oracles.specs.laws.Loop.{VectorOf, MatrixOf}
use Rattle.oracles.proofs.ell_factors.Laws.{lowered_to, solved}
use Rattle.oracles.proofs.ell_factors.forward.Given as goal

abbrev pub invariant-loop-i : goal.invariant-loop-i
invariant-loop-i l = MatrixOf l.n (lowered_to l.n l.initial.mq l.initial.w l.i) l.mq × VectorOf l.n (solved l.n l.initial.mq l.initial.w l.i) l.w × (length l.column ≡ l.n)
