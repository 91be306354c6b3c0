-- `oracles::ell_factors::forward_row` meets its contract. Assumes nothing.
use mathlib.Core.Path.{refl}
use native.Mathlib.Omega.{arith}
use Rattle.numbers.specs.F64.{◌⊖◌}
use Rattle.oracles.specs.Matrix.{total}
use Rattle.oracles.specs.laws.Matrix.{total_turn, total_at}
use Rattle.oracles.specs.laws.Loop.{sweep_zero, sweep_turn, sweep_done}
use borrow.Author.Rules.{rules}
use Rattle.oracles.proofs.ell_factors.forward_row.Goals as goal

pub loop-j-init : goal.loop-j-init
unfolding total
loop-j-init c = (sweep_zero _ _ _ refl, refl)

pub loop-j-preserved : goal.loop-j-preserved
loop-j-preserved c =
    let l = c.loop-j in (
      sweep_turn _ _ _ l.j l.row l.invariant.0 _ (search rules) refl,
      total_turn ◌⊖◌ _ _ l.j _ _ l.invariant.1 refl,
    )

pub returns : goal.returns
returns c =
    let l = c.loop-j in
    (total_at ◌⊖◌ _ _ _ _ _ l.invariant.1 (search rules), sweep_done _ _ _ l.j l.row l.invariant.0 (λ k b g. absurd (omega arith)))
