-- The turns of the two loops of `numbers::sqrt`. Assumes nothing.
use mathlib.Core.Path.{◌≡◌, sym, ap, ◌∙◌, subst}
use Prim.Native.Nat.{ℕ, ◌+◌, ◌-◌, ◌*◌, ◌/◌, ◌%◌, ◌^◌, ◌≤◌, ◌<◌}
use native.Mathlib.Nat.{le_of_suc-le-suc, mul-one, lt_of_lt_of_le, mul-pos, mul-div_cancel}
use native.Mathlib.Omega.{arith}
use lib.Arith.{digits_div}
use lib.Pow.{pow-add, pow_pos, pow_mono}
use Rattle.numbers.specs.laws.Isqrt.{IsRoot}
use Rattle.numbers.specs.laws.Values.{pow_join, place_lt}

-- ---- `normalise`: digits moved up so far

pub record Up (digits m shift : ℕ) : Type 0 where
  pub is : m ≡ digits * 2 ^ shift
  pub small : m < 2 ^ 53

pub up_start : (digits : ℕ) → digits < 2 ^ 53 → Up digits digits 0
up_start digits h = record { is = sym (mul-one digits); small = h }

pub up_more : (digits m shift : ℕ) → Up digits m shift → m < 2 ^ 52 → Up digits (m * 2) (shift + 1)
up_more digits m shift u h = record { is = ap (λ (x : ℕ). x * 2) u.is ∙ pow_join digits shift 1; small = omega arith }

pub up_few : (digits m shift : ℕ) → 0 < digits → Up digits m shift → shift ≤ 52
up_few digits m shift p u = le_of_suc-le-suc (place_lt digits shift 53 p (subst (λ (x : ℕ). x < 2 ^ 53) u.is u.small))

pub up_pos : (digits m shift : ℕ) → 0 < digits → Up digits m shift → 0 < m
up_pos digits m shift p u = subst (λ (x : ℕ). 0 < x) (sym u.is) (mul-pos p (pow_pos shift))

-- ---- `root_digits`: a has i digits of the root of m * 2 ^ 54, rest is left of the leading 2 * i digits, d is to come

-- not unfolded by itself: `omega` would stop at its large numbers where only bounds are asked
pub Sum : ℕ → ℕ → ℕ → ℕ → ℕ → Type 0
Sum m a rest d i = m * 2 ^ 54 * 4 ^ i ≡ (a * a + rest) * 2 ^ 108 + d * 2 ^ 54

pub record Digits (m a rest d i : ℕ) : Type 0 where
  pub value : Sum m a rest d i
  pub over : rest ≤ 2 * a
  pub low : d < 2 ^ 54
  pub room : a < 2 ^ i
  pub small : a < 2 ^ 54
  pub turns : i ≤ 54

pub digits_start : (m : ℕ) → m < 2 ^ 54 → Digits m 0 0 m 0
unfolding Sum
digits_start m h = record { value = omega arith; over = omega arith; low = h; room = omega arith; small = omega arith; turns = omega arith }

four : (x y : ℕ) → x * (y * 4) ≡ 4 * (x * y)
four x y = omega arith

shift : (s r d s' r' : ℕ) → s' + r' ≡ 4 * s + (r * 4 + d / 2 ^ 52) → 4 * ((s + r) * 2 ^ 108 + d * 2 ^ 54) ≡ (s' + r') * 2 ^ 108 + d % 2 ^ 52 * 4 * 2 ^ 54
shift s r d s' r' e = rw e (omega arith)

sum_more : (m a rest d i b r : ℕ) → Sum m a rest d i → b * b + r ≡ 4 * (a * a) + (rest * 4 + d / 2 ^ 52) → Sum m b r (d % 2 ^ 52 * 4) (i + 1)
unfolding Sum
sum_more m a rest d i b r v e = ap (λ (x : ℕ). m * 2 ^ 54 * x) (pow-add 4 i 1) ∙ four (m * 2 ^ 54) (4 ^ i) ∙ ap (λ (x : ℕ). 4 * x) v ∙ shift (a * a) rest d (b * b) r e

more : (m a rest d i b r : ℕ) → Digits m a rest d i → i < 54 → b * b + r ≡ 4 * (a * a) + (rest * 4 + d / 2 ^ 52) → r ≤ 2 * b → b ≤ a * 2 + 1 → Digits m b r (d % 2 ^ 52 * 4) (i + 1)
more m a rest d i b r t h e o l =
    let p = pow-add 2 i 1 in
    let q : b < 2 ^ (i + 1) = omega arith in
    let k : i + 1 ≤ 54 = omega arith in
    record { value = sum_more m a rest d i b r t.value e; over = o; low = omega arith; room = q; small = lt_of_lt_of_le q (pow_mono k); turns = k }

-- the next digit is 1, or 0
pub digit_one : (m a rest d i : ℕ) → Digits m a rest d i → i < 54 → 2 * (a * 2) < rest * 4 + d / 2 ^ 52 → Digits m (a * 2 + 1) (rest * 4 + d / 2 ^ 52 - (2 * (a * 2) + 1)) (d % 2 ^ 52 * 4) (i + 1)
digit_one m a rest d i t h g = more m a rest d i (a * 2 + 1) (rest * 4 + d / 2 ^ 52 - (2 * (a * 2) + 1)) t h (omega arith) (omega arith) (omega arith)

pub digit_zero : (m a rest d i : ℕ) → Digits m a rest d i → i < 54 → rest * 4 + d / 2 ^ 52 ≤ 2 * (a * 2) → Digits m (a * 2) (rest * 4 + d / 2 ^ 52) (d % 2 ^ 52 * 4) (i + 1)
digit_zero m a rest d i t h g = more m a rest d i (a * 2) (rest * 4 + d / 2 ^ 52) t h (omega arith) g (omega arith)

-- after 54 turns nothing is to come
at_end : (m s d : ℕ) → d < 2 ^ 54 → m * 2 ^ 54 * 2 ^ 108 ≡ s * 2 ^ 108 + d * 2 ^ 54 → m * 2 ^ 54 ≡ s
at_end m s d l e = sym (mul-div_cancel (m * 2 ^ 54) (pow_pos 108)) ∙ ap (λ (x : ℕ). x / 2 ^ 108) e ∙ digits_div s (omega arith)

pub digits_done : (m a rest d i : ℕ) → Digits m a rest d i → 54 ≤ i → IsRoot (m * 2 ^ 54) a
unfolding Sum
digits_done m a rest d i t h =
    let k : i ≡ 54 = omega arith in
    let f : m * 2 ^ 54 ≡ a * a + rest = at_end m (a * a + rest) d t.low (subst (λ (x : ℕ). Sum m a rest d x) k t.value) in
    whole (m * 2 ^ 54) a rest f t.over
  where
    whole : (N a r : ℕ) → N ≡ a * a + r → r ≤ 2 * a → IsRoot N a
    whole N a r e o = record { below = omega arith; above = omega arith }
