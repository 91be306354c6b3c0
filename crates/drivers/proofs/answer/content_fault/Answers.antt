-- `drivers::answer::content_fault` meets its contract, a fault at a time. Assumes nothing.
use Rattle.std.specs.Prelude.{is_err, Err}
use mathlib.Core.Path.{◌≡◌, ap, ◌∙◌}
use mathlib.Core.Bool.{true, false, ◌&&◌}
use mathlib.Core.List.{List}
use Prim.Native.Nat.{ℕ}
use lib.Dec.{ltb}
use Rattle.numbers.specs.declared.refusal.Refusal.TheVariants.{Room}
use Rattle.numbers.specs.Refusal.{◌⨾◌, At, Sound, Tests}
use Rattle.numbers.specs.laws.Refusal.{stops, passes, failed, held, exit_same}
use Rattle.drivers.specs.Record.{fields_of, lengths_fault}
use Rattle.drivers.specs.Answer.{has_point, point_at, outcome_fault, point_room}
use Rattle.drivers.specs.laws.Answer.{content_fault, no_room, room_there}
use Rattle.drivers.proofs.answer.content_fault.Goals as goal

-- the lengths' test said f, the outcome's g
module _ (n : ℕ) (bytes places : List ℕ) (room : ℕ) (f : Tests) (e : f ≡ lengths_fault n bytes (fields_of bytes)) where
  at_lengths : is_err f ≡ true → f ≡ content_fault n bytes places room
  at_lengths t = rw (← e) (stops f _ t)

  module _ (t : is_err f ≡ false) (g : Tests) (d : g ≡ outcome_fault bytes places) where
    answer : (r : Tests) → r ≡ (g ⨾ point_room (point_at n bytes places) room) → r ≡ content_fault n bytes places room
    answer r h = rw (← e, ← d) (passes f _ r t h)

    at_outcome : is_err g ≡ true → g ≡ content_fault n bytes places room
    at_outcome u = answer g (stops g _ u)

    module _ (u : is_err g ≡ false) where
      at_room : (has_point places && ltb room n) ≡ true → At Room 0 ≡ content_fault n bytes places room
      at_room h = answer (At Room 0) (passes g _ (At Room 0) u (failed (no_room n bytes places room h)))

      sound : (has_point places && ltb room n) ≡ false → Sound ≡ content_fault n bytes places room
      sound h = answer Sound (passes g _ Sound u (held Room 0 (room_there n bytes places room h)))

pub returns-in_err-lengths_fault : goal.returns-in_err-lengths_fault
returns-in_err-lengths_fault c =
    let a = c.args in
    exit_same c.from_residual.ensures.1 c.in_err-lengths_fault.was
    ∙ at_lengths a.n a.bytes.now a.places.now a.room _ c.lengths_fault.ensures (ap is_err c.in_err-lengths_fault.was)

pub returns-in_err-outcome_fault : goal.returns-in_err-outcome_fault
returns-in_err-outcome_fault c =
    let a = c.args in
    exit_same c.from_residual-in_err-outcome_fault.ensures.1 c.in_err-outcome_fault.was
    ∙ at_outcome a.n a.bytes.now a.places.now a.room _ c.lengths_fault.ensures (ap is_err c.in_ok-lengths_fault.was)
    _ c.outcome_fault.ensures (ap is_err c.in_err-outcome_fault.was)

pub returns-then-places-room : goal.returns-then-places-room
returns-then-places-room c =
    let a = c.args in
    ap Err c.from.ensures ∙ at_room a.n a.bytes.now a.places.now a.room _ c.lengths_fault.ensures (ap is_err c.in_ok-lengths_fault.was)
    _ c.outcome_fault.ensures (ap is_err c.in_ok-outcome_fault.was) c.if-places-room.true

pub returns : goal.returns
returns c =
    let a = c.args in
    sound a.n a.bytes.now a.places.now a.room _ c.lengths_fault.ensures (ap is_err c.in_ok-lengths_fault.was)
    _ c.outcome_fault.ensures (ap is_err c.in_ok-outcome_fault.was) c.if-places-room.false
