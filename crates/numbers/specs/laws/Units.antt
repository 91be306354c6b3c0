-- Values of binary64 as whole numbers of units of 2 ^ -1074. Assumes nothing.
use Rattle.std.proofs.Common.{subst, sym, ap, ◌∙◌, mul-pos, not-suc-le-zero, mul-lt-mul_of_pos_right, le_trans, lt_of_lt_of_le, le_of_eq, le_of_suc-le-suc, mul-div_cancel, zero-mul, zero-lt-suc, arith, lit<, lit≤, pow-add, pow_pos, pow_mono, ne_eqb, lt-ltb}
use Rattle.std.specs.Prelude.{◌≡◌, refl, true, Bool, false, cond, ℕ, zero, suc, ◌+◌, ◌-◌, ◌*◌, ◌/◌, ◌%◌, ◌^◌, ◌≤◌, ◌<◌, ℤ, T, eqb, Float}
use Rattle.std.proofs.Math.Nat.{pow-succ'}
use Rattle.std.specs.Int.Count.{count_trailing_zeros, under}
use Rattle.std.specs.Float.{binary64, nan, inf, fin}
use Rattle.std.specs.Float.Ieee.{units, up, down, minus, odd, fits, of_fields, of_bits}
use Rattle.std.specs.Float.Ieee.Fits.{down_pos}
use Rattle.std.specs.Float.Ieee.Exact.{HasValue}
use Rattle.std.proofs.lemmas.Bool.{lt-leb}
use Rattle.std.specs.Float.Ieee.Positive.{first_pos}
use Rattle.std.specs.Float.Ieee.Scale.{finite}
use Rattle.numbers.specs.Sqrt.{units_of, square_of, rounded, sqrt_of, negative}
use Rattle.numbers.specs.laws.Values.{place_lt, Parts, fits_parts, whole}

-- ---- q * 2 ^ k units as bits: the field is k + 1, and the leading digit of q adds one to it

tz_more : (d q : ℕ) → 0 < q → q < 2 ^ d → count_trailing_zeros (suc d) q ≡ count_trailing_zeros d q
unfolding count_trailing_zeros
tz_more zero q p h = absurd (none p h)
  where
    none : 0 < q → q < 1 → ⊥
    none a b = omega arith
tz_more (suc d) q p h = go (q % 2) refl (tz_more d (q / 2))
  where
    below : q < 2 ^ suc d → q / 2 < 2 ^ d
    below l = let e = pow-succ' 2 d in omega arith

    go : (r : ℕ) → q % 2 ≡ r → (0 < q / 2 → q / 2 < 2 ^ d → count_trailing_zeros (suc d) (q / 2) ≡ count_trailing_zeros d (q / 2)) → under r (count_trailing_zeros (suc d) (q / 2)) ≡ under r (count_trailing_zeros d (q / 2))
    go zero e ih = ap suc (ih (omega arith) (below h))
    go (suc r) e ih = refl

odd_more : (q k : ℕ) → 0 < q → q < 2 ^ 53 → odd 54 false q k 1074 ≡ odd 53 false q k 1074
unfolding odd
odd_more zero k p h = refl
odd_more (suc q) k p h = ap (λ (t : ℕ). fin false (suc q / 2 ^ t) (minus (k + t) 1074)) (tz_more 53 (suc q) p h)

pub in_range : (q k : ℕ) → q < 2 ^ 53 → k ≤ 2045 → q * 2 ^ k < 2 ^ 2098
in_range q k h l = lt_of_lt_of_le (mul-lt-mul_of_pos_right h (pow_pos k)) (le_trans (le_of_eq (sym (pow-add 2 53 k))) (let b : 53 + k ≤ 2098 = omega arith in pow_mono b))

units_are : (q k : ℕ) → q < 2 ^ 53 → k ≤ 2045 → units binary64 false q k ≡ odd 54 false q k 1074
unfolding units
units_are q k h l = ap (λ (t : Bool). cond t (odd 54 false q k 1074) (inf false)) (lt-ltb (q * 2 ^ k) (2 ^ 2098) (in_range q k h l))

pub fields_are : (t k : ℕ) → k ≤ 2045 → of_fields binary64 false (suc k) t ≡ odd 53 false (2 ^ 52 + t) k 1074
unfolding of_fields
fields_are t k l = ap (λ (b : Bool). cond b (cond (eqb t 0) (inf false) nan) (odd 53 false (2 ^ 52 + t) k 1074)) (ne_eqb (suc k) 2047 (λ (e : suc k ≡ 2047). omega arith))

pub bits_are : (b x t : ℕ) → b < 2 ^ 63 → b / 2 ^ 52 ≡ x → b % 2 ^ 52 ≡ t → of_bits binary64 b ≡ of_fields binary64 false x t
unfolding of_bits
bits_are b x t h e f =
    let i : b % 2 ^ 63 ≡ b = omega arith in
    ap (λ (s : Bool). of_fields binary64 s (b % 2 ^ 63 / 2 ^ 52) (b % 2 ^ 52)) (lt-leb (2 ^ 63) b h)
    ∙ ap (λ (y : ℕ). of_fields binary64 false (y / 2 ^ 52) (b % 2 ^ 52)) i
    ∙ ap (λ (y : ℕ). of_fields binary64 false y (b % 2 ^ 52)) e
    ∙ ap (λ (y : ℕ). of_fields binary64 false x y) f

pub units_bits : (q k : ℕ) → 2 ^ 52 ≤ q → q < 2 ^ 53 → k ≤ 2045 → of_bits binary64 (k * 2 ^ 52 + q) ≡ units binary64 false q k
units_bits q k l u r =
    let d : 2 ^ 52 + (q - 2 ^ 52) ≡ q = omega arith in
    bits_are (k * 2 ^ 52 + q) (suc k) (q - 2 ^ 52) (omega arith) (omega arith) (omega arith)
    ∙ fields_are (q - 2 ^ 52) k r
    ∙ ap (λ (x : ℕ). odd 53 false x k 1074) d
    ∙ sym (units_are q k u r ∙ odd_more q k (omega arith) u)

-- ---- a value of the format is a whole number of units

pub value_units : (x : Float) (s : Bool) (u : ℕ) → HasValue x s u (2 ^ 1074) → units_of x ≡ u
value_units nan s u v = absurd v
value_units (inf t) s u v = absurd v
value_units (fin t m e) s u v = ap (λ (n : ℕ). n / down e) v.1 ∙ mul-div_cancel u (down_pos e)

-- m * 2 ^ e is m * 2 ^ place units, with an m of at most 53 digits
pub record Placed (s : Bool) (m : ℕ) (e : ℤ) : Type 0 where
  pub place : ℕ
  pub value : HasValue (fin s m e) s (m * 2 ^ place) (2 ^ 1074)
  pub small : m < 2 ^ 53
  pub reach : place ≤ 2097

placed_at : (s : Bool) (m : ℕ) (e : ℤ) → 0 < m → Parts binary64 m e → Placed s m e
placed_at s m e p h =
    let w = whole binary64 m e h in
    record { place = w.place; value = (refl, w.is); small = h.small; reach = le_of_suc-le-suc (place_lt m w.place 2098 p w.under) }

pub placed : (s : Bool) (m : ℕ) (e : ℤ) → T (fits binary64 (fin s m e)) → Placed s m e
placed s zero e f = record {
  place = 0;
  value = (refl, ap (λ (x : ℕ). x * 2 ^ 1074) (zero-mul (up e)) ∙ zero-mul (2 ^ 1074) ∙ sym (zero-mul (down e)));
  small = lit< tt;
  reach = lit≤ tt;
}
placed s (suc m) e f = placed_at s (suc m) e (zero-lt-suc m) (fits_parts binary64 s m e f)

-- so `units_of` drops nothing of a finite value of the format
pub units_exact : (x : Float) → T (fits binary64 x) → T (finite x) → HasValue x (negative x) (units_of x) (2 ^ 1074)
units_exact nan f h = absurd h
units_exact (inf s) f h = absurd h
units_exact (fin s m e) f h =
    let p = placed s m e f in
    subst (λ (u : ℕ). HasValue (fin s m e) s u (2 ^ 1074)) (sym (value_units (fin s m e) s (m * 2 ^ p.place) p.value)) p.value

-- ---- the root of a number of u units

value_pos : (m : ℕ) (e : ℤ) (u : ℕ) → 0 < u → m * up e * 2 ^ 1074 ≡ u * down e → 0 < m
value_pos m e u p v = first_pos m (up e) (first_pos (m * up e) (2 ^ 1074) (subst (λ (x : ℕ). 0 < x) (sym v) (mul-pos p (down_pos e))))

pub at_positive : (m : ℕ) (e : ℤ) → 0 < m → sqrt_of (fin false m e) ≡ rounded (square_of (units_of (fin false m e)))
unfolding sqrt_of
at_positive zero e h = absurd (not-suc-le-zero h)
at_positive (suc m) e h = refl

at_negative : (m : ℕ) (e : ℤ) → 0 < m → sqrt_of (fin true m e) ≡ nan
unfolding sqrt_of
at_negative zero e h = absurd (not-suc-le-zero h)
at_negative (suc m) e h = refl

pub root_of_value : (x : Float) (u : ℕ) → 0 < u → HasValue x false u (2 ^ 1074) → sqrt_of x ≡ rounded (u * 2 ^ 1074)
root_of_value nan u p v = absurd v
root_of_value (inf t) u p v = absurd v
root_of_value (fin s m e) u p v =
    ap (λ (t : Bool). sqrt_of (fin t m e)) v.0 ∙ at_positive m e (value_pos m e u p v.1) ∙ ap (λ (n : ℕ). rounded (n * 2 ^ 1074)) (value_units (fin s m e) false u v)

pub no_root_of_value : (x : Float) (u : ℕ) → 0 < u → HasValue x true u (2 ^ 1074) → sqrt_of x ≡ nan
no_root_of_value nan u p v = absurd v
no_root_of_value (inf t) u p v = absurd v
no_root_of_value (fin s m e) u p v = ap (λ (t : Bool). sqrt_of (fin t m e)) v.0 ∙ at_negative m e (value_pos m e u p v.1)
