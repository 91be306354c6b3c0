-- `numbers::sqrt::Positive::guessed_root` meets its contract. Assumes nothing.
use native.Mathlib.Omega.{arith}
use Rattle.numbers.proofs.sqrt.Patterns.{no_nan, equal_number}
use Rattle.numbers.proofs.sqrt.Tested.{tested_bits}
use Rattle.numbers.proofs.sqrt.Positive.guessed_root.Goals as goal

pub float_from_bits-result : goal.float_from_bits-result
float_from_bits-result c =
    let l = c.square-s.ensures.reach in
    let e = c.if-w-s.true in
    no_nan _ (omega (arith, l, e))

pub returns-then-is_rounded : goal.returns-then-is_rounded
returns-then-is_rounded c = tested_bits _ _ _ _ c.square-s.ensures c.if-w-s.true (c.is_rounded.ensures c.if-is_rounded.true)

pub float_to_bits-w : goal.float_to_bits-w
float_to_bits-w c = equal_number _ c.if-r.true

pub returns : goal.returns
returns c = c.root.ensures
