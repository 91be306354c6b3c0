-- Laws of the answer record: what a record without a fault has. Assumes nothing.
use Rattle.std.specs.Prelude.{◌≡◌, refl, Bool, true, false, ◌&&◌, List, [], ℕ, ◌≤◌, leb, ltb, length, Err}
use Rattle.std.proofs.Common.{sym, ap, ◌∙◌, arith, ltb-true, ltb-false, leb-true, le-leb}
use Rattle.std.proofs.lemmas.Bool.{lt-leb}
use Rattle.numbers.specs.Refusal.{◌⨾◌, ask, Sound, Tests}
use Rattle.numbers.specs.Arr.{is_dimension}
use Rattle.numbers.specs.laws.Pick.{and_parts, is_hit, is_skip}
use Rattle.numbers.specs.laws.Refusal.{both_sound, ask_sound}
use Rattle.numbers.specs.laws.Arr.{length_tab}
use Rattle.numbers.specs.declared.refusal.Refusal.TheVariants.{Dimension, Room}
use Rattle.numbers.specs.Pick.{pick}
use Rattle.drivers.specs.Rules.{found_place}
use Rattle.drivers.specs.Record.{number_at, numbers_at, fields_of, place, lengths_fault}
use Rattle.drivers.specs.Answer.{has_point, point_at, answer_walk, outcome_fault, answer_fault, point_room, read_answer_tests}

-- the tests behind the walk, as the code makes them
abbrev pub content_fault : ℕ → List ℕ → List ℕ → ℕ → Tests
content_fault n bytes places room = lengths_fault n bytes (fields_of bytes) ⨾ outcome_fault bytes places ⨾ point_room (point_at n bytes places) room

-- a chain is read from the front, however it is put together
chain_assoc : (f g h : Tests) → ((f ⨾ g) ⨾ h) ≡ (f ⨾ g ⨾ h)
unfolding pick
chain_assoc Sound g h = refl
chain_assoc (Err fault) g h = refl

pub read_chain : (n : ℕ) (bytes : List ℕ) (room : ℕ)
    → read_answer_tests n bytes room ≡ (ask (is_dimension n) Dimension ⨾ (answer_walk bytes).0 ⨾ content_fault n bytes (answer_walk bytes).1 room)
unfolding answer_fault
read_chain n bytes room =
    let d = ask (is_dimension n) Dimension in
    let w = (answer_walk bytes).0 in
    let l = lengths_fault n bytes (fields_of bytes) in
    let o = outcome_fault bytes (answer_walk bytes).1 in
    let p = point_room (point_at n bytes (answer_walk bytes).1) room in
    chain_assoc d (w ⨾ l ⨾ o) p ∙ ap (λ (f : Tests). d ⨾ f) (chain_assoc w (l ⨾ o) p ∙ ap (λ (f : Tests). w ⨾ f) (chain_assoc l o p))

-- n is in its range, and a point that is there has room
pub record AnswerSound (n : ℕ) (places : List ℕ) (room : ℕ) : Type 0 where
  pub dimension : is_dimension n ≡ true
  pub has_room : has_point places ≡ true → n ≤ room

-- the room that a point needs: n numbers, or none
module _ (n : ℕ) (bytes places : List ℕ) where
  found_long : has_point places ≡ true → length (point_at n bytes places) ≡ n
  found_long h = ap length (is_hit (has_point places) (numbers_at bytes (place places found_place) n) [] h) ∙ length_tab (λ k. number_at bytes (place places found_place) k) n

  none_long : has_point places ≡ false → length (point_at n bytes places) ≡ 0
  none_long h = ap length (is_skip (has_point places) (numbers_at bytes (place places found_place) n) [] h)

  pub no_room : (room : ℕ) → (has_point places && ltb room n) ≡ true → leb (length (point_at n bytes places)) room ≡ false
  no_room room h =
      let a = and_parts (has_point places) (ltb room n) h in
      lt-leb (length (point_at n bytes places)) room (rw (found_long a.0) (ltb-true room n a.1))

  pub room_there : (room : ℕ) → (has_point places && ltb room n) ≡ false → leb (length (point_at n bytes places)) room ≡ true
  room_there room h = go (has_point places) refl
    where
      go : (t : Bool) → has_point places ≡ t → leb (length (point_at n bytes places)) room ≡ true
      go true e = le-leb (length (point_at n bytes places)) room (rw (found_long e) (ltb-false room n (sym (ap (λ (b : Bool). b && ltb room n) e) ∙ h)))
      go false e = le-leb (length (point_at n bytes places)) room (rw (none_long e) (omega arith))

pub answer_sound : (n : ℕ) (bytes : List ℕ) (room : ℕ) → read_answer_tests n bytes room ≡ Sound → AnswerSound n (answer_walk bytes).1 room
unfolding answer_fault
answer_sound n bytes room e =
    let places = (answer_walk bytes).1 in
    let p = both_sound (answer_fault n bytes) (point_room (point_at n bytes places) room) e in
    let rest = (answer_walk bytes).0 ⨾ lengths_fault n bytes (fields_of bytes) ⨾ outcome_fault bytes places in
    record {
      dimension = ask_sound (is_dimension n) Dimension 0 (both_sound (ask (is_dimension n) Dimension) rest p.0).0;
      has_room = λ h. rw (← found_long n bytes places h) (leb-true (length (point_at n bytes places)) room (ask_sound (leb (length (point_at n bytes places)) room) Room 0 p.1));
    }
