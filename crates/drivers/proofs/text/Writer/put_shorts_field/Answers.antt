-- `drivers::text::Writer::put_shorts_field` meets its contract. Assumes nothing.
use Prim.Native.Nat.{◌*◌}
use mathlib.Core.Path.{refl, ap}
use mathlib.Core.Bool.{not}
use lib.ListN.{length}
use Rattle.drivers.specs.Fields.{short_pieces, short_bytes}
use Rattle.drivers.specs.laws.OneField.{length_shorts}
use Rattle.drivers.specs.laws.Writer.{puts_on}
use Rattle.drivers.proofs.text.Puts.{field_not, field_put}
use Rattle.drivers.proofs.text.Writer.put_shorts_field.Goals as goal

pub returns-then-not-has_room : goal.returns-then-not-has_room
returns-then-not-has_room c =
    let zs = c.args.zs.now in
    field_not c.args.self.now c.args.tag (2 * length zs) (short_bytes zs) (length_shorts zs) _ c.has_room.ensures (ap not c.if-not-has_room.true)

pub returns : goal.returns
returns c =
    let zs = c.args.zs.now in
    field_put c.args.self.now c.args.tag (2 * length zs) (short_bytes zs) (length_shorts zs) _ c.has_room.ensures (ap not c.if-not-has_room.false)
    (short_pieces zs) refl (puts_on c.put_header.ensures c.put_shorts.ensures)
