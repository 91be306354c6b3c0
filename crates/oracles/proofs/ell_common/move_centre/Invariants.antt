-- What the loop of `oracles::ell_common::move_centre` keeps: the entries below i are moved, the others as they were.
use lib.ListN.{length}
use Rattle.numbers.specs.F64.{◌⊖◌, ◌⊗◌}
use Rattle.oracles.specs.Matrix.{nth}
use Rattle.oracles.specs.laws.Loop.{VectorOf, swept}
use Rattle.oracles.proofs.ell_common.move_centre.Given as goal

abbrev pub invariant-loop-i : goal.invariant-loop-i
invariant-loop-i l = VectorOf (length l.initial.xc) (swept (λ k. nth l.initial.xc k ⊖ l.step ⊗ nth l.dir k) (λ k. nth l.initial.xc k) l.i) l.xc
