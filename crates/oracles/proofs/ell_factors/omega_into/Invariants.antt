-- What the loop of `oracles::ell_factors::omega_into` keeps: the products below i are written, and added.
use mathlib.Core.Path.{◌≡◌}
use lib.ListN.{length}
use Rattle.numbers.specs.F64.{◌⊕◌, 0ᶠ}
use Rattle.oracles.specs.Matrix.{nth, total}
use Rattle.oracles.specs.laws.Matrix.{product_at}
use Rattle.oracles.specs.laws.Loop.{VectorOf, swept}
use Rattle.oracles.proofs.ell_factors.omega_into.Given as goal

abbrev pub invariant-loop-i : goal.invariant-loop-i
invariant-loop-i l = VectorOf (length l.initial.gg) (swept (product_at l.z l.w) (λ k. nth l.initial.gg k) l.i) l.gg × (l.omega ≡ total ◌⊕◌ 0ᶠ (product_at l.z l.w) l.i)
