-- What the loop of `oracles::ell::lower_rows` keeps: the rows below i are lowered. Row i is lent as a part, and comes back in its place.
use Rattle.oracles.specs.laws.Loop.{MatrixOf}
use Rattle.oracles.proofs.ell.Laws.{lowered_to}
use Rattle.oracles.proofs.ell.lower_rows.Given as goal

abbrev pub invariant-loop-i : goal.invariant-loop-i
invariant-loop-i l = MatrixOf l.n (lowered_to l.n l.ratio l.gt l.initial.mq l.i) l.mq
