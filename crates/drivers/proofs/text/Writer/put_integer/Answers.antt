-- `drivers::text::Writer::put_integer` meets its contract. Assumes nothing.
use mathlib.Core.Path.{refl, ap}
use mathlib.Core.Bool.{not}
use Rattle.numbers.specs.laws.Bits.{length_bytes}
use Rattle.drivers.specs.laws.Text.{put_one}
use Rattle.drivers.proofs.text.Puts.{no_room, integer_put}
use Rattle.drivers.proofs.text.Writer.put_integer.Goals as goal

pub returns-then-not-has_room : goal.returns-then-not-has_room
returns-then-not-has_room c = record { is = put_one _ _ _ _ (no_room _ _ _ _ (length_bytes c.args.k c.args.w) _ c.has_room.ensures (ap not c.if-not-has_room.true)); same = refl }

pub returns : goal.returns
returns c = record { is = put_one _ _ _ _ (integer_put _ _ c.args.k c.args.w _ _ c.has_room.ensures (ap not c.if-not-has_room.false) c.put_bytes.ensures); same = refl }
