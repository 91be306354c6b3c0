-- `numbers::bits::le_word` meets its contract.
use native.Mathlib.Omega.{arith}
use lib.ListN.{length-take}
use Rattle.numbers.proofs.bits.Laws.{halves_are}
use Rattle.numbers.proofs.bits.le_word.Goals as goal

pub slice_bounds-le_half-end : goal.slice_bounds-le_half-end
slice_bounds-le_half-end c = omega (arith, length-take 4 c.args.bytes.now)

pub le_half-requires : goal.le_half-requires
le_half-requires c = omega (arith, length-take 4 c.args.bytes.now)

pub returns : goal.returns
returns c = halves_are _ _ _ c.le_half.ensures.0 c.le_half-2.ensures.0
