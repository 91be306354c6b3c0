-- `numbers::bits::word_at` meets its contract.
use mathlib.Core.Path.{refl, ◌∙◌}
use Prim.Native.Nat.{◌+◌, ◌-◌}
use native.Mathlib.Omega.{arith}
use lib.ListN.{length}
use Rattle.numbers.specs.laws.Bits.{word_past}
use Rattle.numbers.proofs.bits.Laws.{word_short, word_whole}
use Rattle.numbers.proofs.bits.word_at.Goals as goal

pub returns-then-bytes-at-lt8 : goal.returns-then-bytes-at-lt8
returns-then-bytes-at-lt8 c =
    let bytes = c.args.bytes.now in
    let at = c.args.at in
    c.le_number.ensures ∙ word_short bytes at (length bytes - at) (omega arith) refl

pub returns : goal.returns
returns c =
    let bytes = c.args.bytes.now in
    let at = c.args.at in
    c.le_word.ensures ∙ word_whole bytes at (at + 8 - at) (omega arith)

pub returns-then-bytes-at : goal.returns-then-bytes-at
returns-then-bytes-at c = word_past _ _ c.if-bytes-at.true
