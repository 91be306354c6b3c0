-- Laws of an answer's bytes: their fields, how many they are, and that `write_answer` puts them where there is room. Assumes nothing.
use Rattle.std.specs.Prelude.{ℕ, ◌+◌, ◌*◌, ◌≤◌, ◌≡◌, refl, true, false, Float, Ok}
use Rattle.std.proofs.Math.Path.{sym, ap}
use Rattle.std.proofs.Common.{◌∙◌, arith, le-leb, eq-eqb}
use mathlib.Core.List.{List, [], ◌∷◌}
use Rattle.std.proofs.Math.ListN.{length, length-append}
use Rattle.numbers.specs.Pick.{pick}
use Rattle.numbers.specs.Bits.{le_bytes}
use Rattle.numbers.specs.Arr.{is_dimension}
use Rattle.numbers.specs.Over.{over}
use Rattle.numbers.specs.laws.Pick.{is_hit, is_skip, both_ways, by_test, pick_cong}
use Rattle.numbers.specs.laws.Refusal.{held, at_next, accepts}
use Rattle.drivers.specs.Text.{joined}
use Rattle.drivers.specs.Fields.{Field, record_bytes, number_bytes}
use Rattle.drivers.specs.laws.OneField.{length_numbers}
use Rattle.drivers.specs.Answer.{outcome_field, steps_field, point_field, answer_fields, answer_bytes, write_answer_tests, write_answer_answer}
use Rattle.drivers.specs.declared.answer.Answer.{Answer}

module _ (a : Answer) (point : List Float) where
  -- the fields, by whether there is a point
  pub none_is : a.found ≡ false → outcome_field a.found ∷ steps_field a.steps ∷ [] ≡ answer_fields a point
  none_is h = ap (λ (fs : List Field). outcome_field a.found ∷ steps_field a.steps ∷ fs) (sym (is_skip a.found (point_field point ∷ []) [] h))

  pub found_is : a.found ≡ true → outcome_field a.found ∷ steps_field a.steps ∷ point_field point ∷ [] ≡ answer_fields a point
  found_is h = ap (λ (fs : List Field). outcome_field a.found ∷ steps_field a.steps ∷ fs) (sym (is_hit a.found (point_field point ∷ []) [] h))

  -- how long they are
  pub answer_long : (n : ℕ) → length point ≡ n → length (answer_bytes a point) ≡ pick a.found (12 + 8 * n) 9
  unfolding joined le_bytes
  answer_long n l =
      both_ways a.found (λ h. ap (λ (fs : List Field). length (record_bytes fs)) (sym (found_is h)) ∙ omega (arith, length-append (number_bytes point) [], length_numbers point))
      (λ h. ap (λ (fs : List Field). length (record_bytes fs)) (sym (none_is h)))

  pub answer_most : (n : ℕ) → n ≤ 32 → length point ≡ n → length (answer_bytes a point) ≤ 268
  answer_most n h l =
      let size : pick a.found (12 + 8 * n) 9 ≤ 268 = by_test (λ (k : ℕ). k ≤ 268) a.found _ _ (λ _. omega (arith, h)) (λ _. omega arith) in
      omega (arith, size, answer_long n l)

  -- where there is room for the longest, they stand at the front
  pub write_answer_front : (n : ℕ) (out : List ℕ) → is_dimension n ≡ true → n ≤ 32 → length point ≡ n → 268 ≤ length out
      → write_answer_answer n a point out ≡ (Ok (length (answer_bytes a point)), over out 0 (answer_bytes a point))
  unfolding over write_answer_answer
  write_answer_front n out d h l room =
      sym (accepts _ _ (write_answer_tests n a point out)
      (at_next (at_next (held _ _ d) (held _ _ (eq-eqb (length point) n l))) (held _ _ (le-leb _ (length out) (omega (arith, answer_most n h l, room))))) refl)

-- of the point only one that is found counts
pub same_bytes : (a : Answer) (p q : List Float) → (a.found ≡ true → p ≡ q) → answer_bytes a p ≡ answer_bytes a q
same_bytes a p q h =
    ap (λ (fs : List Field). record_bytes (outcome_field a.found ∷ steps_field a.steps ∷ fs)) (pick_cong a.found (λ f. ap (λ (x : List Float). point_field x ∷ []) (h f)) (λ _. refl))
