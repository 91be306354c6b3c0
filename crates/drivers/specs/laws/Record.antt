-- Laws of records: the fields that a walk has left. Assumes nothing.
use Rattle.std.specs.Prelude.{◌≡◌, Bool, true, false, leb, ltb, length, drop, take, Float}
use Rattle.std.proofs.Math.Path.{refl, sym, ap}
use Rattle.std.proofs.Common.{◌∙◌, arith, ltb-true, lt-ltb, le-ltb, leb-true}
use Rattle.std.proofs.lemmas.Bool.{leb-false}
use mathlib.Core.List.{List, [], ◌∷◌, ◌++◌}
use Prim.Native.Nat.{ℕ, zero, suc, ◌≤◌, ◌<◌, ◌+◌, ◌-◌}
use Rattle.numbers.specs.Pick.{pick}
use Rattle.numbers.specs.laws.Pick.{is_hit, is_skip, pick_cong, by_test}
use Rattle.drivers.specs.Record.{length_at, overruns, after, fields_from, fields_of, is_row, row_count, numbers_at, content_of}

-- ---- the fields from `at` on

abbrev pub fields_after : List ℕ → ℕ → List ℕ
fields_after bytes at = fields_from (length bytes) bytes at

-- the code's test for room, as the definitions have it
pub has_none : {t : Bool} (bytes at size : ℕ) → t ≡ leb (at + size) bytes → t ≡ false → 1 ≤ size → bytes - at < size
has_none bytes at size e f h = omega (arith, leb-false (at + size) bytes (sym e ∙ f), h)

pub has_some : {t : Bool} (bytes at size : ℕ) → t ≡ leb (at + size) bytes → t ≡ true → at + size ≤ bytes
has_some bytes at size e f = leb-true (at + size) bytes (sym e ∙ f)

module _ (bytes : List ℕ) where
  -- the next field begins further on, and at most at the end
  pub after_past : (at : ℕ) → at < length bytes → at < after bytes at
  unfolding after
  after_past at h = by_test (λ z. at < z) (overruns bytes at) (length bytes) (at + (3 + length_at bytes at)) (λ _. h) (λ _. omega arith)

  -- so a walk ends
  pub left_less : (at next : ℕ) → next ≡ after bytes at → at < length bytes → length bytes - next < length bytes - at
  left_less at next e h = omega (arith, after_past at h)

  -- fuel that is enough does not matter
  fuel_free : (f g at : ℕ) → length bytes - at ≤ f → length bytes - at ≤ g → fields_from f bytes at ≡ fields_from g bytes at
  unfolding fields_from
  fuel_free zero zero at a b = refl
  fuel_free zero (suc g) at a b = sym (is_skip _ _ _ (le-ltb at (length bytes) (omega arith)))
  fuel_free (suc f) zero at a b = is_skip _ _ _ (le-ltb at (length bytes) (omega arith))
  fuel_free (suc f) (suc g) at a b =
      pick_cong (ltb at (length bytes))
      (λ e.
      let h = after_past at (ltb-true at (length bytes) e) in
      ap (λ (l : List ℕ). at ∷ l) (fuel_free f g (after bytes at) (omega arith) (omega arith)))
      (λ _. refl)

  -- all of them, one more, and none left
  pub fields_start : fields_after bytes 0 ≡ fields_of bytes
  unfolding fields_of
  fields_start = refl

  pub fields_turn : (at : ℕ) → at < length bytes → fields_after bytes at ≡ at ∷ fields_after bytes (after bytes at)
  unfolding fields_from
  fields_turn at h = fuel_free (length bytes) (suc (length bytes)) at (omega arith) (omega arith) ∙ is_hit _ _ _ (lt-ltb at (length bytes) h)

  pub fields_end : (at : ℕ) → length bytes ≤ at → fields_after bytes at ≡ []
  unfolding fields_from
  fields_end at h = fuel_free (length bytes) 0 at (omega arith) (omega arith)

  -- no more fields than bytes
  few_from : (fuel at : ℕ) → length (fields_from fuel bytes at) ≤ length bytes - at
  unfolding fields_from
  few_from zero at = omega arith
  few_from (suc fuel) at =
      by_test (λ (l : List ℕ). length l ≤ length bytes - at) (ltb at (length bytes)) (at ∷ fields_from fuel bytes (after bytes at)) []
      (λ e. let h = ltb-true at (length bytes) e in omega (arith, few_from fuel (after bytes at), after_past at h)) (λ _. omega arith)

  pub fields_few : (at : ℕ) → length (fields_after bytes at) ≤ length bytes
  fields_few at = omega (arith, few_from (length bytes) at)

-- ---- rows

-- each field has at most one
pub rows_few : (bytes fields : List ℕ) → row_count bytes fields ≤ length fields
unfolding row_count
rows_few bytes [] = omega arith
rows_few bytes (at ∷ fields) = by_test (λ n. n + row_count bytes fields ≤ suc (length fields)) (is_row bytes at) 1 0 (λ _. omega (arith, rows_few bytes fields)) (λ _. omega (arith, rows_few bytes fields))

-- the table when rows fill it up to k and the next field has been seen
unfoldable pub row_filled : List ℕ → ℕ → ℕ → ℕ → List Float → ℕ × List Float
row_filled bytes at n k table =
    pick (is_row bytes at) (k + n, take k table ++ numbers_at bytes (content_of bytes at) n ++ drop (k + n) table) (k, table)
