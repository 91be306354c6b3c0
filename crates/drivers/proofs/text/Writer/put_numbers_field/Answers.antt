-- `drivers::text::Writer::put_numbers_field` meets its contract. Assumes nothing.
use Prim.Native.Nat.{◌*◌}
use mathlib.Core.Path.{refl, ap}
use mathlib.Core.Bool.{not}
use lib.ListN.{length}
use Rattle.drivers.specs.Fields.{number_pieces, number_bytes}
use Rattle.drivers.specs.laws.OneField.{length_numbers}
use Rattle.drivers.specs.laws.Writer.{puts_on}
use Rattle.drivers.proofs.text.Puts.{field_not, field_put}
use Rattle.drivers.proofs.text.Writer.put_numbers_field.Goals as goal

pub returns-then-not-has_room : goal.returns-then-not-has_room
returns-then-not-has_room c =
    let xs = c.args.xs.now in
    field_not c.args.self.now c.args.tag (8 * length xs) (number_bytes xs) (length_numbers xs) _ c.has_room.ensures (ap not c.if-not-has_room.true)

pub returns : goal.returns
returns c =
    let xs = c.args.xs.now in
    field_put c.args.self.now c.args.tag (8 * length xs) (number_bytes xs) (length_numbers xs) _ c.has_room.ensures (ap not c.if-not-has_room.false)
    (number_pieces xs) refl (puts_on c.put_header.ensures c.put_numbers.ensures)
