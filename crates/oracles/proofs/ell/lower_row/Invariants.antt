-- What the loop of `oracles::ell::lower_row` keeps: the entries below j are lowered, the others as they were.
use lib.Dec.{leb}
use lib.ListN.{length}
use Rattle.numbers.specs.F64.{◌⊖◌, ◌⊗◌}
use Rattle.numbers.specs.Pick.{pick}
use Rattle.oracles.specs.Matrix.{nth}
use Rattle.oracles.specs.laws.Loop.{VectorOf, swept}
use Rattle.oracles.proofs.ell.lower_row.Given as goal

abbrev pub invariant-loop-j : goal.invariant-loop-j
invariant-loop-j l = VectorOf (length l.initial.row) (swept (λ k. pick (leb k l.i) (nth l.initial.row k ⊖ l.r_qg ⊗ nth l.gt k) (nth l.initial.row k)) (λ k. nth l.initial.row k) l.j) l.row
