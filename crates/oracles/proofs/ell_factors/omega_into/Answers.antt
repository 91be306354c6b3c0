-- `oracles::ell_factors::omega_into` meets its contract. Assumes nothing.
use mathlib.Core.Path.{refl}
use native.Mathlib.Omega.{arith}
use borrow.Author.Rules.{rules}
use Rattle.numbers.specs.F64.{◌⊕◌, 0ᶠ}
use Rattle.oracles.specs.Matrix.{total}
use Rattle.oracles.specs.laws.Matrix.{total_turn, total_at}
use Rattle.oracles.specs.laws.Loop.{sweep_zero, sweep_turn, sweep_done}
use Rattle.oracles.proofs.ell_factors.omega_into.Goals as goal

pub loop-i-init : goal.loop-i-init
unfolding total
loop-i-init c = (sweep_zero _ _ _ refl, refl)

pub loop-i-preserved : goal.loop-i-preserved
loop-i-preserved c =
    let l = c.loop-i in
    (sweep_turn _ _ _ l.i l.gg l.invariant.0 _ (search rules) refl, total_turn ◌⊕◌ 0ᶠ _ l.i _ _ l.invariant.1 refl)

pub returns : goal.returns
returns c =
    let l = c.loop-i in
    (total_at ◌⊕◌ 0ᶠ _ _ _ _ l.invariant.1 (search rules), sweep_done _ _ _ l.i l.gg l.invariant.0 (λ k b g. absurd (omega arith)))
