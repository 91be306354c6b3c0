-- The root from a number's bit pattern. Assumes nothing.
use mathlib.Core.Path.{◌≡◌, refl, sym, ap, ◌∙◌, subst}
use mathlib.Core.Logic.{◌⊎◌, inl, inr}
use mathlib.Core.Bool.{Bool, true, false, not, ◌&&◌, cond, true≢false}
use Prim.Native.Nat.{ℕ, zero, suc, ◌+◌, ◌-◌, ◌*◌, ◌/◌, ◌%◌, ◌^◌, ◌≤◌, ◌<◌}
use native.Mathlib.Nat.{mul-one, mul-pos}
use native.Mathlib.Omega.{arith}
use lib.Dec.{T, eqb, leb, ltb, leb→le, ltb→lt, nltb→le}
use mir.Facts.{and_yes, and_no}
use lib.Pow.{pow_pos}
use borrow.Author.Tests.{le-leb, le-ltb, ltb-false}
use lib.Ieee.{Float, nan, inf, fin, binary64, odd, div, eq, ne, fits, of_fields, of_bits, to_bits, is_nan, nan_bits}
use lib.Ieee.Bits.{of_bits-to_bits, to_bits-lt, nan_bits_is, nan_bits_above, is_false}
use lib.Ieee.Compare.{differs_from_itself, nan_differs}
use lib.Ieee.Exact.{odd_sign}
use Rattle.numbers.specs.Sqrt.{rounded, sqrt_of}
use Rattle.numbers.specs.laws.Isqrt.{IsRoot}
use Rattle.numbers.specs.laws.Rounded.{SquareOfBits, Scaled, rounded_scaled, root_most, half_least, half_most}
use Rattle.numbers.specs.laws.Values.{pow_join}
use Rattle.numbers.specs.laws.Units.{root_of_value, no_root_of_value, fields_are, bits_are, units_bits}

-- ---- a number that is q * 2 ^ k units, q above zero

units_pos : (q k : ℕ) → 0 < q → 0 < q * 2 ^ k
units_pos q k p = mul-pos p (pow_pos k)

root_of_odd : (q k : ℕ) → 0 < q → sqrt_of (odd 53 false q k 1074) ≡ rounded (q * 2 ^ k * 2 ^ 1074)
root_of_odd q k p = root_of_value (odd 53 false q k 1074) (q * 2 ^ k) (units_pos q k p) (odd_sign 53 false q k 1074)

no_root_of_odd : (q k : ℕ) → 0 < q → sqrt_of (odd 53 true q k 1074) ≡ nan
no_root_of_odd q k p = no_root_of_value (odd 53 true q k 1074) (q * 2 ^ k) (units_pos q k p) (odd_sign 53 true q k 1074)

-- ---- a positive pattern: a subnormal's digits, or digits with a leading one

zero_field : (s : Bool) (t : ℕ) → of_fields binary64 s 0 t ≡ odd 53 s t 0 1074
unfolding of_fields
zero_field s t = refl

root_subnormal : (bits : ℕ) → 0 < bits → bits / 2 ^ 52 ≡ 0 → sqrt_of (of_bits binary64 bits) ≡ rounded (bits % 2 ^ 52 * 2 ^ 1074)
root_subnormal bits p h =
    let t = bits % 2 ^ 52 in
    ap sqrt_of (bits_are bits 0 t (omega arith) h refl ∙ zero_field false t) ∙ root_of_odd t 0 (omega arith) ∙ ap (λ (x : ℕ). rounded (x * 2 ^ 1074)) (mul-one t)

root_normal : (bits k : ℕ) → bits / 2 ^ 52 ≡ suc k → k ≤ 2045 → sqrt_of (of_bits binary64 bits) ≡ rounded ((2 ^ 52 + bits % 2 ^ 52) * 2 ^ (k + 1074))
root_normal bits k h l =
    let t = bits % 2 ^ 52 in
    ap sqrt_of (bits_are bits (suc k) t (omega arith) h refl ∙ fields_are t k l)
    ∙ root_of_odd (2 ^ 52 + t) k (omega arith)
    ∙ ap rounded (pow_join (2 ^ 52 + t) k 1074)

-- moved up, the digits are the same number
shift_up : (digits m shift e : ℕ) → m ≡ digits * 2 ^ shift → shift ≤ e → m * 2 ^ (e - shift) ≡ digits * 2 ^ e
shift_up digits m shift e h l =
    let f : shift + (e - shift) ≡ e = omega arith in
    ap (λ (x : ℕ). x * 2 ^ (e - shift)) h ∙ pow_join digits shift (e - shift) ∙ ap (λ (x : ℕ). digits * 2 ^ x) f

-- ---- the bits of the rounded root

pub root_bits : (bits m g a : ℕ) → SquareOfBits bits m g → IsRoot (m * 2 ^ 54) a → of_bits binary64 ((g + 1) * 2 ^ 52 + (a + 1) / 2) ≡ sqrt_of (of_bits binary64 bits)
root_bits bits m g a s r =
    let k : g + 1 ≤ 2045 = let l = s.reach in omega arith in
    let f : Scaled m a = record { least = s.least; most = s.most; root = r } in
    units_bits ((a + 1) / 2) (g + 1) (half_least m a f) (half_most m a f) k ∙ sym (s.root ∙ rounded_scaled m a g f)

-- ---- the patterns that the root does not change, and those below zero

plus_zero : sqrt_of (of_bits binary64 0) ≡ of_bits binary64 0
unfolding sqrt_of of_bits
plus_zero = refl

minus_zero : sqrt_of (of_bits binary64 (2 ^ 63)) ≡ of_bits binary64 (2 ^ 63)
unfolding sqrt_of of_bits
minus_zero = refl

root_of_infinity : sqrt_of (of_bits binary64 0x7ff0_0000_0000_0000) ≡ of_bits binary64 0x7ff0_0000_0000_0000
unfolding sqrt_of of_bits
root_of_infinity = refl

negative_is : (b x t : ℕ) → 2 ^ 63 ≤ b → b % 2 ^ 63 / 2 ^ 52 ≡ x → b % 2 ^ 52 ≡ t → of_bits binary64 b ≡ of_fields binary64 true x t
unfolding of_bits
negative_is b x t h e f =
    ap (λ (s : Bool). of_fields binary64 s (b % 2 ^ 63 / 2 ^ 52) (b % 2 ^ 52)) (le-leb (2 ^ 63) b h)
    ∙ ap (λ (y : ℕ). of_fields binary64 true y (b % 2 ^ 52)) e
    ∙ ap (λ (y : ℕ). of_fields binary64 true x y) f

-- a negative number's root, an infinity's or a NaN's
no_root_at : (x t : ℕ) → sqrt_of (of_fields binary64 true (suc x) t) ≡ nan
unfolding of_fields
no_root_at x t = go (eqb (suc x) 2047) (eqb t 0)
  where
    go : (a b : Bool) → sqrt_of (cond a (cond b (inf true) nan) (odd 53 true (2 ^ 52 + t) x 1074)) ≡ nan
    go true true = unfold sqrt_of in refl
    go true false = unfold sqrt_of in refl
    go false b = no_root_of_odd (2 ^ 52 + t) x (omega arith)

root_of_negative : (b : ℕ) → 2 ^ 63 ≤ b → (b % 2 ^ 63 ≡ 0 → ⊥) → sqrt_of (of_bits binary64 b) ≡ nan
root_of_negative b h n = go (b % 2 ^ 63 / 2 ^ 52) refl
  where
    t : ℕ
    t = b % 2 ^ 52

    go : (x : ℕ) → b % 2 ^ 63 / 2 ^ 52 ≡ x → sqrt_of (of_bits binary64 b) ≡ nan
    go zero e = ap sqrt_of (negative_is b 0 t h e refl ∙ zero_field true t) ∙ no_root_of_odd t 0 (omega (arith, n))
    go (suc x) e = ap sqrt_of (negative_is b (suc x) t h e refl) ∙ no_root_at x t

root_of_zero : (b : ℕ) → b < 2 ^ 64 → b % 2 ^ 63 ≡ 0 → sqrt_of (of_bits binary64 b) ≡ of_bits binary64 b
root_of_zero b l h = go (b / 2 ^ 63) refl
  where
    at : (c : ℕ) → b ≡ c → sqrt_of (of_bits binary64 c) ≡ of_bits binary64 c → sqrt_of (of_bits binary64 b) ≡ of_bits binary64 b
    at c e f = rw e f

    go : (s : ℕ) → b / 2 ^ 63 ≡ s → sqrt_of (of_bits binary64 b) ≡ of_bits binary64 b
    go zero e = at 0 (omega arith) plus_zero
    go (suc s) e = at (2 ^ 63) (omega arith) minus_zero

-- ---- `square_of`: m * 2 ^ 54 * 4 ^ g is the square, from either kind of pattern

pub square_subnormal : (bits d shift m g : ℕ) → 0 < bits → bits / 2 ^ 52 ≡ 0 → d ≡ bits % 2 ^ 52 * 2 ^ shift → shift ≤ 52
    → (m * 2 ^ 54 * 4 ^ g ≡ d * 2 ^ (1074 - shift)) × (2 ^ 52 ≤ m) × (m ≤ 2 ^ 54 - 2) × (g ≤ 1532) → SquareOfBits bits m g
square_subnormal bits d shift m g p z e k h = record {
  root = root_subnormal bits p z ∙ ap rounded (sym (h.0 ∙ shift_up (bits % 2 ^ 52) d shift 1074 e (omega arith)));
  least = h.1;
  most = h.2;
  reach = h.3;
}

pub square_normal : (bits m g : ℕ) → bits < 0x7ff0_0000_0000_0000 → (bits / 2 ^ 52 ≡ 0 → ⊥)
    → (m * 2 ^ 54 * 4 ^ g ≡ (2 ^ 52 + bits % 2 ^ 52) * 2 ^ (bits / 2 ^ 52 + 1073)) × (2 ^ 52 ≤ m) × (m ≤ 2 ^ 54 - 2) × (g ≤ 1532) → SquareOfBits bits m g
square_normal bits m g l n h =
    let k = bits / 2 ^ 52 - 1 in
    let s : bits / 2 ^ 52 ≡ suc k = omega (arith, n) in
    let e : k + 1074 ≡ bits / 2 ^ 52 + 1073 = omega arith in
    record {
      root = root_normal bits k s (omega arith) ∙ ap rounded (ap (λ (x : ℕ). (2 ^ 52 + bits % 2 ^ 52) * 2 ^ x) e ∙ sym h.0);
      least = h.1;
      most = h.2;
      reach = h.3;
    }

-- the pattern of the rounded root is no NaN's
pub no_nan : (b : ℕ) → b < 0x7ff0_0000_0000_0000 → T (not (nan_bits binary64 b))
no_nan b l = let e : nan_bits binary64 b ≡ false = nan_bits_above binary64 b ∙ le-ltb 0x7ff0_0000_0000_0000 (b % 2 ^ 63) (omega arith) in subst (λ (t : Bool). T (not t)) (sym e) tt

pub root_small : (bits m g a : ℕ) → SquareOfBits bits m g → IsRoot (m * 2 ^ 54) a → a + 2 ≤ 2 ^ 54
root_small bits m g a s r = root_most m a (record { least = s.least; most = s.most; root = r })

-- ---- `sqrt`: a NaN, and what is left when the other patterns are gone

pub not_a_nan : (x : Float) → ne x x ≡ false → T (not (is_nan x))
unfolding is_nan
not_a_nan nan h = absurd (true≢false (sym nan_differs ∙ h))
not_a_nan (inf s) h = tt
not_a_nan (fin s m e) h = tt

pub equal_number : (x : Float) → eq x x ≡ true → T (not (is_nan x))
unfolding eq is_nan
equal_number nan h = absurd (true≢false (sym h))
equal_number (inf s) h = tt
equal_number (fin s m e) h = tt

quotient : div binary64 (of_bits binary64 0) (of_bits binary64 0) ≡ nan
unfolding of_bits div
quotient = refl

root_of_nan : sqrt_of nan ≡ nan
unfolding sqrt_of
root_of_nan = refl

pub nan_root : (x : Float) → ne x x ≡ true → div binary64 (of_bits binary64 0) (of_bits binary64 0) ≡ sqrt_of x
nan_root x h = quotient ∙ sym (ap sqrt_of (differs_from_itself x (subst T (sym h) tt)) ∙ root_of_nan)

module _ (x : Float) (f : T (fits binary64 x)) where
  -- x again from its bits
  same : of_bits binary64 (to_bits binary64 x) ≡ x
  same = of_bits-to_bits binary64 x f

  zero_root : to_bits binary64 x % 2 ^ 63 ≡ 0 → x ≡ sqrt_of x
  zero_root h = sym (subst (λ (y : Float). sqrt_of y ≡ y) same (root_of_zero (to_bits binary64 x) (to_bits-lt binary64 x f) h))

  pub negative_root : 2 ^ 63 < to_bits binary64 x → div binary64 (of_bits binary64 0) (of_bits binary64 0) ≡ sqrt_of x
  negative_root h =
      let l = to_bits-lt binary64 x f in
      quotient ∙ sym (subst (λ (y : Float). sqrt_of y ≡ nan) same (root_of_negative (to_bits binary64 x) (omega arith) (λ (z : to_bits binary64 x % 2 ^ 63 ≡ 0). omega arith)))

  infinity_root : to_bits binary64 x ≡ 0x7ff0_0000_0000_0000 → x ≡ sqrt_of x
  infinity_root h = sym (subst (λ (y : Float). sqrt_of y ≡ y) (ap (of_bits binary64) (sym h) ∙ same) root_of_infinity)

  pub positive_root : (r : Float) → r ≡ sqrt_of (of_bits binary64 (to_bits binary64 x)) → r ≡ sqrt_of x
  positive_root r h = h ∙ ap sqrt_of same

  -- a number's pattern without its sign is at most infinity's
  number_bits : ne x x ≡ false → to_bits binary64 x % 2 ^ 63 ≤ 0x7ff0_0000_0000_0000
  number_bits e =
      let b = to_bits binary64 x in
      ltb-false 0x7ff0_0000_0000_0000 (b % 2 ^ 63) (sym (nan_bits_above binary64 b) ∙ nan_bits_is binary64 b ∙ ap is_nan same ∙ is_false (is_nan x) (not_a_nan x e))

  -- zeros and plus infinity
  pub other_root : ne x x ≡ false → (ltb 0 (to_bits binary64 x) && ltb (to_bits binary64 x) 0x7ff0_0000_0000_0000) ≡ false → to_bits binary64 x ≤ 2 ^ 63 → x ≡ sqrt_of x
  other_root e n l = go (and_no (ltb 0 b) (ltb b 0x7ff0_0000_0000_0000) (subst (λ (t : Bool). T (not t)) (sym n) tt))
    where
      b : ℕ
      b = to_bits binary64 x

      at : (s : ℕ) → b / 2 ^ 63 ≡ s → 0x7ff0_0000_0000_0000 ≤ b → x ≡ sqrt_of x
      at zero h k = let m = number_bits e in infinity_root (omega (arith, m, h, k))
      at (suc s) h k = zero_root (omega (arith, h, k, l))

      go : T (not (ltb 0 b)) ⊎ T (not (ltb b 0x7ff0_0000_0000_0000)) → x ≡ sqrt_of x
      go (inl h) = zero_root (omega (arith, nltb→le 0 b h))
      go (inr h) = at (b / 2 ^ 63) refl (nltb→le b 0x7ff0_0000_0000_0000 h)

-- the tests of a pattern
pub positive_bits : (b : ℕ) → (ltb 0 b && ltb b 0x7ff0_0000_0000_0000) ≡ true → (0 < b) × (b < 0x7ff0_0000_0000_0000)
positive_bits b h =
    let p = and_yes (ltb 0 b) (ltb b 0x7ff0_0000_0000_0000) (subst T (sym h) tt) in
    (ltb→lt 0 b p.0, ltb→lt b 0x7ff0_0000_0000_0000 p.1)

pub normal_bits : (b : ℕ) → (leb (2 ^ 52) b && ltb b 0x7ff0_0000_0000_0000) ≡ true → (0 < b) × (b < 0x7ff0_0000_0000_0000)
normal_bits b h =
    let p = and_yes (leb (2 ^ 52) b) (ltb b 0x7ff0_0000_0000_0000) (subst T (sym h) tt) in
    (omega (arith, leb→le (2 ^ 52) b p.0), ltb→lt b 0x7ff0_0000_0000_0000 p.1)
