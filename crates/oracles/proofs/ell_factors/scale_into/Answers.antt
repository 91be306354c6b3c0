-- `oracles::ell_factors::scale_into` meets its contract. Assumes nothing.
use native.Mathlib.Omega.{arith}
use borrow.Author.Rules.{rules}
use Rattle.oracles.specs.laws.Loop.{sweep_zero, sweep_turn, sweep_done}
use Rattle.oracles.proofs.ell_factors.scale_into.Goals as goal

pub loop-i-init : goal.loop-i-init
loop-i-init c = sweep_zero _ _ _ (search rules)

pub loop-i-preserved : goal.loop-i-preserved
loop-i-preserved c = let l = c.loop-i in sweep_turn _ _ _ l.i l.z l.invariant _ (search rules) (rw c.at.ensures)

pub returns : goal.returns
returns c = let l = c.loop-i in sweep_done _ _ _ l.i l.z l.invariant (λ k b g. absurd (omega arith))
