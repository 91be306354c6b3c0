-- `drivers::text::Writer::put_integer_field` meets its contract. Assumes nothing.
use mathlib.Core.Path.{ap}
use mathlib.Core.Bool.{not}
use mathlib.Core.List.{[], ◌∷◌}
use Rattle.numbers.specs.Bits.{le_bytes}
use Rattle.numbers.specs.laws.Bits.{length_bytes}
use Rattle.drivers.specs.laws.Writer.{puts_on}
use Rattle.drivers.proofs.text.Puts.{field_not, field_put, joined_one}
use Rattle.drivers.proofs.text.Writer.put_integer_field.Goals as goal

pub returns-then-not-has_room : goal.returns-then-not-has_room
returns-then-not-has_room c = field_not c.args.self.now c.args.tag c.args.k (le_bytes c.args.k c.args.w) (length_bytes c.args.k c.args.w) _ c.has_room.ensures (ap not c.if-not-has_room.true)

pub returns : goal.returns
returns c =
    let a = c.args in
    field_put a.self.now a.tag a.k (le_bytes a.k a.w) (length_bytes a.k a.w) _ c.has_room.ensures (ap not c.if-not-has_room.false)
    (le_bytes a.k a.w ∷ []) (joined_one (le_bytes a.k a.w)) (puts_on c.put_header.ensures c.put_integer.ensures)
