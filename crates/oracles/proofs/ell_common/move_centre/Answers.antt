-- `oracles::ell_common::move_centre` meets its contract. Assumes nothing.
use mathlib.Core.Path.{refl}
use native.Mathlib.Omega.{arith}
use borrow.Author.Rules.{rules}
use Rattle.oracles.specs.EllCommon.{centre_of}
use Rattle.oracles.specs.laws.Loop.{sweep_zero, sweep_turn, sweep_left, sweep_done}
use Rattle.oracles.proofs.ell_common.move_centre.Goals as goal

pub loop-i-init : goal.loop-i-init
loop-i-init c = sweep_zero _ _ _ refl

pub loop-i-preserved : goal.loop-i-preserved
loop-i-preserved c =
    let l = c.loop-i in
    sweep_turn _ _ _ l.i l.xc l.invariant _ (search rules) (rw (sweep_left _ _ _ l.i l.xc l.invariant l.i (omega arith) (search rules)))

pub returns : goal.returns
unfolding centre_of
returns c =
    let l = c.loop-i in
    sweep_done _ _ _ l.i l.xc l.invariant (λ k b g. absurd (omega arith))
