-- `lists::signed::signed` meets its contract.
use Rattle.std.proofs.Common.{◌∙◌, to_z-of_z, w32, w64}
use Rattle.lists.proofs.signed.Laws.{value_of_word}
use Rattle.lists.proofs.signed.signed.Goals as goal

pub returns : goal.returns
returns c =
    to_z-of_z {w = w32} (record { sfits = c.unwrap_or.type_inv }) ∙ c.unwrap_or.ensures
    ∙ value_of_word c.try_from.result c.args.w c.ranges.w.fits (rw (to_z-of_z {w = w64} (record { sfits = c.cast_signed.type_inv }), c.cast_signed.ensures) at c.try_from.ensures)
