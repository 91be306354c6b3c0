-- What the loop of `oracles::ell_factors::forward_row` keeps: the first j products are stored in the row, and taken from the start.
use mathlib.Core.Path.{◌≡◌}
use lib.ListN.{length}
use Rattle.numbers.specs.F64.{◌⊖◌, ◌⊗◌}
use Rattle.oracles.specs.Matrix.{nth, total}
use Rattle.oracles.specs.laws.Loop.{VectorOf, swept}
use Rattle.oracles.proofs.ell_factors.forward_row.Given as goal

abbrev pub invariant-loop-j : goal.invariant-loop-j
invariant-loop-j l = VectorOf (length l.initial.row) (swept (λ k. nth l.column k ⊗ nth l.w k) (λ k. nth l.initial.row k) l.j) l.row × (l.s ≡ total ◌⊖◌ l.start (λ k. nth l.column k ⊗ nth l.w k) l.j)
