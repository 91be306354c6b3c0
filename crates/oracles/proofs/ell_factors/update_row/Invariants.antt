-- What the loop of `oracles::ell_factors::update_row` keeps: the entries below l are written.
use lib.ListN.{length}
use Rattle.oracles.specs.Matrix.{nth}
use Rattle.oracles.specs.laws.Loop.{VectorOf, swept}
use Rattle.oracles.proofs.ell_factors.Laws.{updated_from}
use Rattle.oracles.proofs.ell_factors.update_row.Given as goal

abbrev pub invariant-loop-l : goal.invariant-loop-l
invariant-loop-l l = VectorOf (length l.v) (swept (updated_from l.beta2 l.v l.initial.row) (λ k. nth l.initial.row k) l.l) l.row
