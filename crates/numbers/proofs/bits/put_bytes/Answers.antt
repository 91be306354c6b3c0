-- `numbers::bits::put_bytes` meets its contract.
use native.Mathlib.Omega.{arith}
use Rattle.numbers.specs.laws.Bits.{put_short}
use Rattle.numbers.proofs.bits.Laws.{low_start, low_turn, low_done}
use borrow.Author.Rules.{rules}
use Rattle.numbers.proofs.bits.put_bytes.Goals as goal

pub bounds-out-at : goal.bounds-out-at
bounds-out-at c = omega (arith, c.loop-i.invariant.long, c.loop-i.invariant.room)

pub loop-i-preserved : goal.loop-i-preserved
loop-i-preserved c = low_turn _ _ _ _ c.loop-i.out c.loop-i.i c.loop-i.rest c.loop-i.invariant (search rules)

pub returns : goal.returns
returns c = low_done _ _ _ _ _ c.loop-i.i _ c.loop-i.invariant (search rules)

pub returns-then-out-k : goal.returns-then-out-k
returns-then-out-k c = put_short _ _ _ _ (search rules)

pub returns-then-out-k-2 : goal.returns-then-out-k-2
returns-then-out-k-2 c = put_short _ _ _ _ (search rules)

pub loop-i-init : goal.loop-i-init
loop-i-init c = low_start _ _ _ _ (search rules)

pub shape_of-out : goal.shape_of-out
shape_of-out c = c.loop-i.invariant.long
