-- `oracles::ldlt_mgr::row_sum` meets its contract. Assumes nothing.
use mathlib.Core.Path.{refl}
use Rattle.numbers.specs.F64.{◌⊕◌, 0ᶠ}
use Rattle.oracles.specs.Matrix.{total}
use Rattle.oracles.specs.laws.Matrix.{total_turn}
use Rattle.oracles.proofs.ldlt_mgr.row_sum.Goals as goal

pub loop-k-init : goal.loop-k-init
unfolding total
loop-k-init c = refl

pub loop-k-preserved : goal.loop-k-preserved
loop-k-preserved c =
    let l = c.loop-k in
    total_turn ◌⊕◌ 0ᶠ _ l.k l.s _ l.invariant (rw (c.at.ensures, c.at-in-loop-k.ensures))
