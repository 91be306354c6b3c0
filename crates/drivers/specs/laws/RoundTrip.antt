-- An answer that is written and read again is the same answer. Assumes nothing.
use Prim.Native.Nat.{ℕ, ◌*◌, ◌≤◌, ◌<◌}
use Rattle.std.specs.Prelude.{◌≡◌, Bool, ◌&&◌, leb, ltb, eqb, take, Float, Ok}
use Rattle.std.proofs.Math.Path.{refl, sym, ap}
use Rattle.std.proofs.Common.{◌∙◌}
use Rattle.std.proofs.Math.Bool.{true, false}
use mathlib.Core.List.{List, [], ◌∷◌}
use native.Mathlib.Omega.{arith}
use borrow.Author.Tests.{le-ltb, eq-eqb, eqb-true}
use Rattle.std.proofs.Math.ListN.{length}
use Rattle.numbers.specs.Pick.{pick, some}
use Rattle.numbers.specs.Bits.{le_bytes}
use Rattle.numbers.specs.Arr.{is_dimension, sized}
use Rattle.numbers.specs.Refusal.{ask, Sound}
use Rattle.numbers.specs.laws.Over.{over_none}
use Rattle.numbers.specs.laws.Bits.{word_low}
use Rattle.numbers.specs.laws.Arr.{dimension_most}
use Rattle.numbers.specs.laws.Refusal.{both_sound, ask_sound, held, at_next, accepts}
use Rattle.numbers.specs.declared.refusal.Refusal.TheVariants.{Dimension, Length, Room}
use Rattle.drivers.specs.Text.{joined}
use Rattle.drivers.specs.Record.{byte_at, half_at, numbers_at, no_places, place, missing_fault, fronted}
use Rattle.drivers.specs.Fields.{Field, record_bytes}
use Rattle.drivers.specs.Answer.{has_point, outcome_byte, answer_at, point_at, outcome_fault, answer_fault, read_answer_answer, outcome_field, steps_field, point_field, answer_bytes, write_answer_tests, write_answer_answer}
use Rattle.drivers.specs.laws.Answer.{room_there}
use Rattle.drivers.specs.laws.OneField.{AllF64, length_numbers, numbers_read, size_row}
use Rattle.drivers.specs.laws.Fields.{Each, walk_tags}
use Rattle.drivers.specs.laws.Written.{Taken, there, content_there, walk_taken, lengths_taken, wrote}
use Rattle.drivers.specs.declared.answer.Answer.{Answer}
use Rattle.drivers.specs.Rules.{rules, rule_at, index_in, index_of, rule_length, answer_form, outcome_place, steps_place, found_place}

-- ---- fields that an answer's reader takes

module _ (n : ℕ) (fs : List Field) (point : List Float) (dimension : is_dimension n ≡ true) (t : Taken answer_form n fs) where
  abbrev bytes : List ℕ
  bytes = record_bytes fs

  abbrev places : List ℕ
  places = (walk_tags answer_form 0 fs no_places).1

  -- with the outcome of its fields, and room for a point that is there
  module _ (outcome : byte_at bytes (place places outcome_place) ≡ outcome_byte (has_point places)) (room : (has_point places && ltb (length point) n) ≡ false) where
    fault_is : Sound ≡ answer_fault n bytes
    unfolding answer_fault outcome_fault
    fault_is =
        at_next (held _ _ dimension)
        (rw (walk_taken answer_form n fs t) (at_next refl (at_next (sym (lengths_taken answer_form n fs t)) (held _ _ (eq-eqb _ _ outcome)))))

    read_is : read_answer_answer n bytes point ≡ (Ok (answer_at bytes places), fronted (point_at n bytes places) point)
    unfolding read_answer_answer
    read_is =
        let w = walk_taken answer_form n fs t in
        sym (accepts _ _ _ (at_next fault_is (rw w (held _ _ (room_there n bytes places (length point) room)))) (rw w))

-- ---- without a point, and with one

module _ (n s : ℕ) (point : List Float) (dimension : is_dimension n ≡ true) (small : s < 65536) where
  -- the first two fields, whatever follows them
  module _ (found : Bool) (o : outcome_byte found < 256) (fs : List Field) (t : Taken answer_form n (outcome_field found ∷ steps_field s ∷ fs)) where
    abbrev all : List Field
    all = outcome_field found ∷ steps_field s ∷ fs

    outcome_is : byte_at (record_bytes all) (place (walk_tags answer_form 0 all no_places).1 outcome_place) ≡ outcome_byte found
    unfolding Each rules index_in index_of pick
    outcome_is =
        let h = there answer_form all t.writable t.walked outcome_place (omega arith) [] (outcome_field found) _ refl tt refl in
        word_low (record_bytes all) _ 1 (outcome_byte found) h.rest (omega arith) o (content_there h)

    steps_is : half_at (record_bytes all) (place (walk_tags answer_form 0 all no_places).1 steps_place) ≡ s
    unfolding Each rules index_in index_of pick
    steps_is =
        let h = there answer_form all t.writable t.walked steps_place (omega arith) (outcome_field found ∷ []) (steps_field s) _ refl (refl, tt) refl in
        word_low (record_bytes all) _ 2 s h.rest (omega arith) small (content_there h)

  none_taken : Taken answer_form n (outcome_field false ∷ steps_field s ∷ [])
  unfolding joined le_bytes Each walk_tags missing_fault some rules rule_at index_in index_of rule_length pick
  none_taken = record { writable = ((omega arith, omega arith), ((omega arith, omega arith), tt)); sized = (omega arith, (omega arith, tt)); walked = refl; none_missing = refl }

  none_again : read_answer_answer n (answer_bytes (record { found = false; steps = s }) []) point ≡ (Ok (record { found = false; steps = s }), point)
  unfolding joined le_bytes walk_tags rules rule_at index_in index_of pick
  none_again =
      let fs = outcome_field false ∷ steps_field s ∷ [] in
      read_is n fs point dimension none_taken (outcome_is false (omega arith) [] none_taken) refl
      ∙ (λ i. (Ok (record { found = false; steps = steps_is false (omega arith) [] none_taken i }), over_none point 0 i))

  module _ (x : List Float) (long : length x ≡ n) where
    found_taken : Taken answer_form n (outcome_field true ∷ steps_field s ∷ point_field x ∷ [])
    unfolding joined le_bytes Each walk_tags missing_fault some rules rule_at index_in index_of rule_length pick
    found_taken =
        record {
          writable = ((omega arith, omega arith), ((omega arith, omega arith), ((omega arith, omega (arith, length_numbers x, long, dimension_most n dimension)), tt)));
          sized = (omega arith, (omega arith, (length_numbers x ∙ ap (λ (k : ℕ). 8 * k) long ∙ sym (size_row n), tt)));
          walked = refl;
          none_missing = refl;
        }

    found_again : AllF64 x → n ≤ length point
        → read_answer_answer n (answer_bytes (record { found = true; steps = s }) x) point ≡ (Ok (record { found = true; steps = s }), fronted x point)
    unfolding joined le_bytes Each walk_tags rules rule_at index_in index_of pick
    found_again f64 room =
        let last = point_field x ∷ [] in
        let fs = outcome_field true ∷ steps_field s ∷ last in
        let bytes = record_bytes fs in
        let p = place (walk_tags answer_form 0 fs no_places).1 found_place in
        let t = found_taken in
        let h = there answer_form fs t.writable t.walked found_place (omega arith) (outcome_field true ∷ steps_field s ∷ []) (point_field x) [] refl (refl, (refl, tt)) refl in
        let numbers : numbers_at bytes p n ≡ x = ap (numbers_at bytes p) (sym long) ∙ numbers_read bytes p x h.rest f64 (content_there h) in
        read_is n fs point dimension t (outcome_is true (omega arith) last t) (le-ltb (length point) n room)
        ∙ (λ i. (Ok (record { found = true; steps = steps_is true (omega arith) last t i }), fronted (numbers i) point))

-- ---- the theorem

module _ (n : ℕ) (a : Answer) (x point : List Float) (small : a.steps < 65536) (f64 : AllF64 x) (room : a.found ≡ true → n ≤ length point) where
  -- An answer's record, read again, is the answer, with its point, number for number, at the front of the output; without a point the output stays.
  -- The steps are a 16-bit number and each number of the point is an f64, as their types say; NaN comes back as NaN.
  pub answer_again : is_dimension n ≡ true → length x ≡ n → read_answer_answer n (answer_bytes a x) point ≡ (Ok a, pick a.found (fronted x point) point)
  unfolding pick
  answer_again d long = go a.found room
    where
      go : (t : Bool) → (t ≡ true → n ≤ length point)
          → read_answer_answer n (answer_bytes (record { found = t; steps = a.steps }) x) point ≡ (Ok (record { found = t; steps = a.steps }), pick t (fronted x point) point)
      go true h = found_again n a.steps point d small x long f64 (h refl)
      go false h = none_again n a.steps point d small

  -- So whatever `write_answer` has written at the front of any output is read again as that answer.
  pub written_again : (out out' : List ℕ) (k : ℕ) → write_answer_answer n a x out ≡ (Ok k, out')
      → read_answer_answer n (take k out') point ≡ (Ok a, pick a.found (fronted x point) point)
  unfolding write_answer_answer
  written_again out out' k e =
      let bytes = answer_bytes a x in
      let w = wrote (write_answer_tests n a x out) bytes out out' k e in
      let s = both_sound (ask (is_dimension n) Dimension) (ask (eqb (length x) n) Length) (both_sound (sized n (eqb (length x) n)) (ask (leb (length bytes) (length out)) Room) w.sound).0 in
      ap (λ (l : List ℕ). read_answer_answer n l point) w.front_is
      ∙ answer_again (ask_sound (is_dimension n) Dimension 0 s.0) (eqb-true (length x) n (ask_sound (eqb (length x) n) Length 0 s.1))
