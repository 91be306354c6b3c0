-- What the writer of answers has put. Assumes nothing.
use Rattle.std.specs.Prelude.{Err, Ok}
use Rattle.numbers.specs.Refusal.{Sound}
use Prim.Native.Nat.{ℕ, ◌+◌, ◌*◌, ◌≤◌, ◌<◌}
use mathlib.Core.Path.{◌≡◌, refl, sym, ap, ◌∙◌}
use mathlib.Core.Bool.{true, false}
use mathlib.Core.List.{List, [], ◌∷◌, map}
use native.Mathlib.Omega.{arith}
use borrow.Author.Tests.{lt-leb, le-leb, eq-eqb, ne_eqb}
use lib.Dec.{eqb}
use lib.ListN.{length}
use lib.Ieee.{Float}
use Rattle.numbers.specs.Pick.{pick}
use Rattle.numbers.specs.Bits.{le_bytes}
use Rattle.numbers.specs.Arr.{is_dimension, sized}
use Rattle.numbers.specs.declared.refusal.Refusal.TheVariants.{Dimension, Length, Room}
use Rattle.numbers.specs.laws.Refusal.{failed, held, at_first, at_next, refuses, accepts}
use Rattle.drivers.specs.laws.Text.{put_front, put_all}
use Rattle.drivers.specs.Fields.{field_bytes}
use Rattle.drivers.specs.laws.AnswerBytes.{none_is, found_is, answer_long}
use Rattle.drivers.specs.Answer.{outcome_byte, steps_field, point_field, answer_fields, answer_bytes, write_answer_tests, write_answer_answer}
use Rattle.drivers.specs.declared.answer.Answer.{Answer}

-- ---- the fields, by whether there is a point

module _ (a : Answer) (point : List Float) (w : ℕ) (e : w ≡ outcome_byte a.found) where
  pub none_put : a.found ≡ false → (field_bytes (0x20, le_bytes 1 w) ∷ field_bytes (steps_field a.steps) ∷ []) ≡ map field_bytes (answer_fields a point)
  none_put h = ap (λ (v : ℕ). field_bytes (0x20, le_bytes 1 v) ∷ field_bytes (steps_field a.steps) ∷ []) e ∙ ap (map field_bytes) (none_is a point h)

  pub found_put : a.found ≡ true → (field_bytes (0x20, le_bytes 1 w) ∷ field_bytes (steps_field a.steps) ∷ field_bytes (point_field point) ∷ []) ≡ map field_bytes (answer_fields a point)
  found_put h = ap (λ (v : ℕ). field_bytes (0x20, le_bytes 1 v) ∷ field_bytes (steps_field a.steps) ∷ field_bytes (point_field point) ∷ []) e ∙ ap (map field_bytes) (found_is a point h)

-- ---- `write_answer`, by its tests

module _ (n : ℕ) (a : Answer) (point : List Float) (out : List ℕ) where
  pub wrong_n : is_dimension n ≡ false → (Err Dimension, out) ≡ write_answer_answer n a point out
  unfolding write_answer_answer
  wrong_n h = refuses _ _ (write_answer_tests n a point out) (at_first _ (at_first _ (failed h))) refl

  module _ (h : is_dimension n ≡ true) where
    pub wrong_point : (length point ≡ n → ⊥) → (Err Length, out) ≡ write_answer_answer n a point out
    unfolding write_answer_answer
    wrong_point l = refuses _ _ (write_answer_tests n a point out) (at_first _ (at_next (held _ _ h) (failed (ne_eqb (length point) n l)))) refl

    module _ (l : length point ≡ n) (size : ℕ) (s : size ≡ pick a.found (12 + 8 * n) 9) where
      long : length (answer_bytes a point) ≡ size
      long = answer_long a point n l ∙ sym s

      sizes_sound : Sound ≡ sized n (eqb (length point) n)
      sizes_sound = at_next (held _ _ h) (held _ _ (eq-eqb (length point) n l))

      pub no_room : length out < size → (Err Room, out) ≡ write_answer_answer n a point out
      unfolding write_answer_answer
      no_room k = refuses _ _ (write_answer_tests n a point out) (at_next sizes_sound (failed (lt-leb _ (length out) (omega (arith, long))))) refl

      pub written : (r : ℕ × List ℕ) → size ≤ length out → r ≡ put_all out 0 (map field_bytes (answer_fields a point)) → (Ok r.0, r.1) ≡ write_answer_answer n a point out
      unfolding write_answer_answer
      written r k p =
          accepts _ _ (write_answer_tests n a point out) (at_next sizes_sound (held _ _ (le-leb _ (length out) (omega (arith, long)))))
          (ap (λ (q : ℕ × List ℕ). (Ok q.0, q.1)) (put_front out (map field_bytes (answer_fields a point)) r (omega (arith, long)) p))
