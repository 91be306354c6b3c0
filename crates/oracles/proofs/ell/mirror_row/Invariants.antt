-- What the loop of `oracles::ell::mirror_row` keeps: column i's entries before j are row i's.
use Rattle.oracles.specs.laws.Loop.{MatrixOf}
use Rattle.oracles.specs.laws.Ell.{mirrored_to}
use Rattle.oracles.proofs.ell.mirror_row.Given as goal

abbrev pub invariant-loop-j : goal.invariant-loop-j
invariant-loop-j l = MatrixOf l.n (mirrored_to l.n l.initial.mq l.i l.j) l.mq
