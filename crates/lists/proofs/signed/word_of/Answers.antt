-- `lists::signed::word_of` meets its contract.
use Rattle.std.proofs.Common.{to_z-of_z, ◌∙◌, w64, w32}
use Rattle.lists.proofs.signed.Laws.{word_of_value, wider}
use Rattle.lists.proofs.signed.word_of.Goals as goal

pub returns : goal.returns
returns c =
    let e = c.from.ensures ∙ to_z-of_z {w = w32} c.ranges.i in
    c.cast_unsigned.ensures ∙ rw (e, to_z-of_z {w = w64} (wider c.args.i c.ranges.i)) (word_of_value c.args.i c.ranges.i)
