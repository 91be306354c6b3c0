-- What the loop of `oracles::ell::mirror` keeps: the columns below i are taken from the rows.
use Rattle.oracles.specs.laws.Loop.{MatrixOf}
use Rattle.oracles.proofs.ell.Laws.{from_rows}
use Rattle.oracles.proofs.ell.mirror.Given as goal

abbrev pub invariant-loop-i : goal.invariant-loop-i
invariant-loop-i l = MatrixOf l.n (from_rows l.n l.initial.mq l.i) l.mq
