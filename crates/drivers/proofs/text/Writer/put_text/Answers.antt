-- `drivers::text::Writer::put_text` meets its contract. Assumes nothing.
use mathlib.Core.Path.{refl, ap}
use mathlib.Core.Bool.{not}
use Rattle.drivers.specs.laws.Text.{put_one}
use Rattle.drivers.proofs.text.Turns.{no_room, room, copied}
use Rattle.drivers.proofs.text.Writer.put_text.Goals as goal

pub returns-then-not-has_room : goal.returns-then-not-has_room
returns-then-not-has_room c = record { is = put_one _ _ _ _ (no_room _ _ _ _ refl _ c.has_room.ensures (ap not c.if-not-has_room.true)); same = refl }

pub returns : goal.returns
returns c =
    let fits = room _ _ c.args.text.now _ refl _ c.has_room.ensures (ap not c.if-not-has_room.false) in
    record { is = put_one _ _ _ _ (copied _ _ c.args.text.now _ fits c.copy_from_slice.ensures.after); same = refl }
