-- `drivers::text::Writer::put_digits` meets its contract. Assumes nothing.
use mathlib.Core.Path.{refl, ap}
use mathlib.Core.Bool.{not}
use borrow.Author.Rules.{rules}
use Rattle.drivers.specs.laws.Text.{put_one, length_digits}
use Rattle.drivers.proofs.text.Turns.{no_room, room, down_start, down_turn, down_done}
use Rattle.drivers.proofs.text.Writer.put_digits.Goals as goal

pub returns-then-not-has_room : goal.returns-then-not-has_room
returns-then-not-has_room c =
    let a = c.args in
    record { is = put_one _ _ _ _ (no_room _ _ _ _ (length_digits a.base a.count a.w) _ c.has_room.ensures (ap not c.if-not-has_room.true)); same = refl }

pub loop-i-preserved : goal.loop-i-preserved
loop-i-preserved c =
    let l = c.loop-i in
    (search rules, down_turn _ _ _ _ l.self.out.now l.i l.rest _ l.invariant.1 (search rules) c.digit_char.ensures, l.invariant.2)

pub loop-i-init : goal.loop-i-init
loop-i-init c =
    let a = c.args in
    (search rules, down_start _ _ _ _ (room _ _ _ _ (length_digits a.base a.count a.w) _ c.has_room.ensures (ap not c.if-not-has_room.false)), refl)

pub returns : goal.returns
returns c = record { is = put_one _ _ _ _ (down_done _ _ _ _ _ _ _ _ c.loop-i.invariant.1 c.loop-i.invariant.0 (search rules)); same = c.loop-i.invariant.2 }
