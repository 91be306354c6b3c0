-- `drivers::text::digit_count` meets its contract. Assumes nothing.
use native.Mathlib.Omega.{arith}
use borrow.Author.Rules.{rules}
use Rattle.drivers.proofs.text.Turns.{counted_start, counted_turn, counted_done}
use Rattle.drivers.proofs.text.digit_count.Goals as goal

pub loop-rest-init : goal.loop-rest-init
loop-rest-init c = counted_start _ (search rules)

pub loop-rest-smaller : goal.loop-rest-smaller
loop-rest-smaller c = omega (arith, (counted_turn _ _ _ c.loop-rest.invariant (search rules)).0)

pub loop-rest-preserved : goal.loop-rest-preserved
loop-rest-preserved c = (counted_turn _ _ _ c.loop-rest.invariant (search rules)).1

pub returns : goal.returns
returns c = counted_done _ _ _ c.loop-rest.invariant (search rules)
