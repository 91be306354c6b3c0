-- The test of a guess in `numbers::sqrt`: a q that passes it is the rounded root. Assumes nothing.
use mathlib.Core.Path.{◌≡◌, sym, ap, ◌∙◌, subst}
use mathlib.Core.Bool.{Bool, true, false, not, ◌&&◌}
use Prim.Native.Nat.{ℕ, ◌+◌, ◌-◌, ◌*◌, ◌/◌, ◌%◌, ◌^◌, ◌≤◌, ◌<◌}
use native.Mathlib.Nat.{mul-le-mul}
use native.Mathlib.Omega.{arith}
use lib.Dec.{T, leb, ltb, leb→le, ltb→lt, nleb→lt}
use mir.Facts.{and_yes}
use lib.Ieee.{binary64, of_bits}
use Rattle.numbers.specs.Sqrt.{sqrt_of}
use Rattle.numbers.specs.laws.Isqrt.{IsRoot}
use Rattle.numbers.specs.laws.Rounded.{SquareOfBits}
use Rattle.numbers.proofs.sqrt.Patterns.{root_bits}

-- ---- `is_rounded`: q = high * 2 ^ 27 + low, and its products fit

module _ (q : ℕ) (l : q < 2 ^ 53) where
  abbrev high : ℕ
  high = q / 0x800_0000

  abbrev low : ℕ
  low = q % 0x800_0000

  high_most : high ≤ 0x3ff_ffff
  high_most = omega arith

  low_most : low ≤ 0x7ff_ffff
  low_most = omega arith

  pub high_high : high * high ≤ 2 ^ 52
  high_high = let h : high * high ≤ 0x3ff_ffff * 0x3ff_ffff = mul-le-mul high_most high_most in omega (arith, h)

  pub high_low : high * low ≤ 2 ^ 53
  high_low = let h : high * low ≤ 0x3ff_ffff * 0x7ff_ffff = mul-le-mul high_most low_most in omega (arith, h)

  pub low_low : low * low ≤ 2 ^ 54
  low_low = let h : low * low ≤ 0x7ff_ffff * 0x7ff_ffff = mul-le-mul low_most low_most in omega (arith, h)

square_split : (q h l : ℕ) → q ≡ h * 0x800_0000 + l → q * q ≡ h * h * 2 ^ 54 + h * l * 2 ^ 28 + l * l
square_split q h l e = rw e (omega arith)

-- left - right in the code is m * 2 ^ 52 + q - q * q
within : (m q hh hl ll a b s : ℕ) → s ≡ hh * 2 ^ 54 + hl * 2 ^ 28 + ll → a + 4 * hh ≡ m + 2 → b + hl ≡ a * 2 ^ 24
    → 2 ^ 53 + ll < b * 2 ^ 28 + q → b * 2 ^ 28 + q ≤ 2 ^ 53 + ll + 2 * q → (s < m * 2 ^ 52 + q) × (m * 2 ^ 52 ≤ s + q)
within m q hh hl ll a b s e f g u v = (omega arith, omega arith)

pub tested : (m q : ℕ) → let hh = q / 0x800_0000 * (q / 0x800_0000) in let hl = q / 0x800_0000 * (q % 0x800_0000) in let ll = q % 0x800_0000 * (q % 0x800_0000) in
    let a = m + 2 - 4 * hh in let b = a * 0x100_0000 - hl in
    4 * hh ≤ m + 2 → hl ≤ a * 0x100_0000 → 0x20_0000_0000_0000 + ll < b * 0x1000_0000 + q → b * 0x1000_0000 + q ≤ 0x20_0000_0000_0000 + ll + 2 * q
    → (q * q < m * 2 ^ 52 + q) × (m * 2 ^ 52 ≤ q * q + q)
tested m q u v x y =
    let h = q / 0x800_0000 in
    let l = q % 0x800_0000 in
    let a = m + 2 - 4 * (h * h) in
    within m q (h * h) (h * l) (l * l) a (a * 0x100_0000 - h * l) (q * q) (square_split q h l (omega arith)) (omega arith) (omega arith) x y

-- as the code's two tests say it
pub both : (m q l r : ℕ) → ((l < r) → (r ≤ l + 2 * q) → (q * q < m * 2 ^ 52 + q) × (m * 2 ^ 52 ≤ q * q + q)) → (ltb l r && leb r (l + 2 * q)) ≡ true → (q * q < m * 2 ^ 52 + q) × (m * 2 ^ 52 ≤ q * q + q)
both m q l r k h =
    let p = and_yes (ltb l r) (leb r (l + 2 * q)) (subst T (sym h) tt) in
    k (ltb→lt l r p.0) (leb→le r (l + 2 * q) p.1)

-- ---- such a q is the root of m * 2 ^ 54, 54 digits a, rounded to 53

record Half (m q : ℕ) : Type 0 where
  pub a : ℕ
  pub root : IsRoot (m * 2 ^ 54) a
  pub half : (a + 1) / 2 ≡ q

odd_root : (m q r : ℕ) → q ≡ r + 1 → q * q < m * 2 ^ 52 + q → m * 2 ^ 52 < q * q → IsRoot (m * 2 ^ 54) (2 * r + 1)
odd_root m q r e h k =
    let f : q * q ≡ r * r + 2 * r + 1 = rw e (omega arith) in
    record { below = omega arith; above = omega arith }

half_of : (m q : ℕ) → 0 < q → (q * q < m * 2 ^ 52 + q) × (m * 2 ^ 52 ≤ q * q + q) → Half m q
half_of m q p h = go (leb (q * q) (m * 2 ^ 52)) (leb→le (q * q) (m * 2 ^ 52)) (nleb→lt (q * q) (m * 2 ^ 52))
  where
    go : (t : Bool) → (T t → q * q ≤ m * 2 ^ 52) → (T (not t) → m * 2 ^ 52 < q * q) → Half m q
    go true u d = let x = u tt in record { a = 2 * q; root = record { below = omega arith; above = omega arith }; half = omega arith }
    go false u d = record { a = 2 * (q - 1) + 1; root = odd_root m q (q - 1) (omega arith) h.0 (d tt); half = omega arith }

-- ---- `guessed_root`: w is the pattern with this q

pub tested_bits : (bits m g w : ℕ) → SquareOfBits bits m g → w / 2 ^ 52 ≡ g + 2 → let q = 2 ^ 52 + w % 2 ^ 52 in (q * q < m * 2 ^ 52 + q) × (m * 2 ^ 52 ≤ q * q + q)
    → of_bits binary64 w ≡ sqrt_of (of_bits binary64 bits)
tested_bits bits m g w s e h =
    let t = half_of m (2 ^ 52 + w % 2 ^ 52) (omega arith) h in
    ap (of_bits binary64) (pattern t.half) ∙ root_bits bits m g t.a s t.root
  where
    pattern : {x : ℕ} → x ≡ 2 ^ 52 + w % 2 ^ 52 → w ≡ (g + 1) * 2 ^ 52 + x
    pattern k = omega arith
