-- Values of a format: what it takes to fit, one value for each sign and size, and rounding what fits. Assumes nothing.
use Rattle.std.specs.Prelude.{◌≡◌, refl, Bool, true, false, ◌&&◌, cond, ℕ, zero, suc, ◌+◌, ◌-◌, ◌*◌, ◌/◌, ◌%◌, ◌^◌, ◌≤◌, ◌<◌, ℤ, pos, negsuc, T, leb, ltb, eqb, Float}
use Rattle.std.proofs.Common.{sym, ap, ◌∙◌, le_trans, le_of_eq, mul-le-mul_right, mul_assoc, mul_comm, mul_right_comm, mul-one, one-mul, zero-mul, zero-add, mul-lt-mul_of_pos_right, lt_of_mul-lt-mul_right, lt_of_not-le, not-le_of_lt, le_of_suc-le-suc, lt_of_le_of_lt, arith, ltb→lt, leb→le, pow-add, pow_pos, pow_mono, ltb-false}
use Rattle.std.proofs.Math.Nat.{sub-zero, eq_of_mul-eq-mul_right}
use Rattle.std.proofs.Math.Pow.{pow-lt}
use Rattle.std.specs.Float.{nan, inf, fin, Format, binary64}
use Rattle.std.specs.Float.Ieee.{prec, emax, low, up, down, size, hid, top, round, sum, add, fits, to_bits, of_bits}
use Rattle.std.specs.Float.Ieee.Digits.{back}
use Rattle.std.specs.Float.Ieee.Exact.{HasValue, round_exact}
use Rattle.std.specs.Float.Ieee.Nearest.{div_same}
use Rattle.std.specs.Float.Ieee.Fits.{down_pos, and_l, and_r, round-fits}
use Rattle.std.specs.Float.Ieee.Bits.{of_bits-to_bits}
use Rattle.numbers.specs.F64.{◌⊕◌, −0ᶠ}

pow_lt_back : (a b : ℕ) → 2 ^ a < 2 ^ b → a < b
pow_lt_back a b h = lt_of_not-le (λ (g : b ≤ a). not-le_of_lt h (pow_mono g))

pow_le_back : (a b : ℕ) → 2 ^ a ≤ 2 ^ b → a ≤ b
pow_le_back a b h = le_of_suc-le-suc (pow_lt_back a (suc b) (lt_of_le_of_lt h (pow-lt (next b))))
  where
    next : (n : ℕ) → n < suc n
    next n = omega arith

-- a number moved up twice
pub pow_join : (n i j : ℕ) → n * 2 ^ i * 2 ^ j ≡ n * 2 ^ (i + j)
pow_join n i j = mul_assoc n (2 ^ i) (2 ^ j) ∙ ap (λ (x : ℕ). n * x) (sym (pow-add 2 i j))

-- a number above zero that stays below 2 ^ b was moved up by less than b places
pub place_lt : (n k b : ℕ) → 0 < n → n * 2 ^ k < 2 ^ b → k < b
place_lt n k b p h = pow_lt_back k b (lt_of_le_of_lt (le_trans (le_of_eq (sym (one-mul (2 ^ k)))) (mul-le-mul_right (2 ^ k) p)) h)

-- ---- what it takes to fit

pub record Parts (f : Format) (m : ℕ) (e : ℤ) : Type 0 where
  pub small : m < 2 ^ prec f
  pub fine : down e ≤ 2 ^ low f
  pub reach : m * up e < 2 ^ suc (emax f) * down e

pub fits_parts : (f : Format) (s : Bool) (m : ℕ) (e : ℤ) → T (fits f (fin s (suc m) e)) → Parts f (suc m) e
unfolding fits
fits_parts f s m e t =
    let a = eqb (suc m % 2) 1 in
    let b = ltb (suc m) (2 ^ prec f) in
    let c = leb (down e) (2 ^ low f) in
    let d = ltb (suc m * up e) (2 ^ suc (emax f) * down e) in
    record {
      small = ltb→lt (suc m) (2 ^ prec f) (and_r a b (and_l (a && b) c (and_l (a && b && c) d t)));
      fine = leb→le (down e) (2 ^ low f) (and_r (a && b) c (and_l (a && b && c) d t));
      reach = ltb→lt (suc m * up e) (2 ^ suc (emax f) * down e) (and_r (a && b && c) d t);
    }

-- 2 ^ e in units of 2 ^ -l
in_units : (l : ℕ) (e : ℤ) → down e ≤ 2 ^ l → (j : ℕ) × (up e * 2 ^ l ≡ 2 ^ j * down e)
in_units l (pos k) h = (k + l, sym (pow-add 2 k l) ∙ sym (mul-one (2 ^ (k + l))))
in_units l (negsuc k) h =
    (l - suc k, one-mul (2 ^ l) ∙ ap (λ (z : ℕ). 2 ^ z) (sym (back l (suc k) (pow_le_back (suc k) l h))) ∙ pow-add 2 (l - suc k) (suc k))

-- so m * 2 ^ e is m * 2 ^ place of the format's smallest values
pub record Whole (f : Format) (m : ℕ) (e : ℤ) : Type 0 where
  pub place : ℕ
  pub is : m * up e * 2 ^ low f ≡ m * 2 ^ place * down e
  pub under : m * 2 ^ place < 2 ^ (low f + suc (emax f))

pub whole : (f : Format) (m : ℕ) (e : ℤ) → Parts f m e → Whole f m e
whole f m e p =
    let j = (in_units (low f) e p.fine).0 in
    let v : m * up e * 2 ^ low f ≡ m * 2 ^ j * down e =
    mul_assoc m (up e) (2 ^ low f) ∙ ap (λ (z : ℕ). m * z) (in_units (low f) e p.fine).1 ∙ sym (mul_assoc m (2 ^ j) (down e)) in
    let w : 2 ^ suc (emax f) * down e * 2 ^ low f ≡ 2 ^ (low f + suc (emax f)) * down e =
    mul_right_comm (2 ^ suc (emax f)) (down e) (2 ^ low f) ∙ ap (λ (z : ℕ). z * down e) (mul_comm (2 ^ suc (emax f)) (2 ^ low f) ∙ sym (pow-add 2 (low f) (suc (emax f)))) in
    record { place = j; is = v; under = lt_of_mul-lt-mul_right (down e) (rw (← v, ← w) (mul-lt-mul_of_pos_right p.reach (pow_pos (low f)))) }

-- ---- a format has one value of a sign and a size

same_bits : (f : Format) (s : Bool) (n : ℕ) (d : ℤ) (m : ℕ) (e : ℤ) → n * up d * down e ≡ m * up e * down d → to_bits f (fin s n d) ≡ to_bits f (fin s m e)
unfolding to_bits
same_bits f s n d m e h =
    ap (λ (u : ℕ). cond s (top f) 0 + (size u - prec f) * hid f + u / 2 ^ (size u - prec f))
    (div_same (n * up d * 2 ^ low f) (down d) (m * up e * 2 ^ low f) (down e) (down_pos d) (down_pos e)
    (mul_right_comm (n * up d) (2 ^ low f) (down e) ∙ ap (λ (z : ℕ). z * 2 ^ low f) h ∙ mul_right_comm (m * up e) (down d) (2 ^ low f)))

cross : (x y p q a c : ℕ) → 0 < c → x * c ≡ a * p → y * c ≡ a * q → x * q ≡ y * p
cross x y p q a c h v w =
    eq_of_mul-eq-mul_right c h (x * q) (y * p)
    (mul_right_comm x q c ∙ ap (λ (z : ℕ). z * q) v ∙ mul_right_comm a p q ∙ ap (λ (z : ℕ). z * p) (sym w) ∙ sym (mul_right_comm y p c))

pub value_unique : (f : Format) (x y : Float) (s : Bool) (a c : ℕ) → 0 < c → T (fits f x) → T (fits f y) → HasValue x s a c → HasValue y s a c → x ≡ y
value_unique f nan y s a c h p q v w = absurd v
value_unique f (inf t) y s a c h p q v w = absurd v
value_unique f (fin t n d) nan s a c h p q v w = absurd w
value_unique f (fin t n d) (inf u) s a c h p q v w = absurd w
value_unique f (fin t n d) (fin u m e) s a c h p q v w =
    sym (of_bits-to_bits f (fin t n d) p)
    ∙ ap (of_bits f) (ap (λ (b : Bool). to_bits f (fin b n d)) (v.0 ∙ sym w.0) ∙ same_bits f u n d m e (cross (n * up d) (m * up e) (down d) (down e) a c h v.1 w.1))
    ∙ of_bits-to_bits f (fin u m e) q

-- ---- rounding a value of the format gives it back

rounds : (f : Format) (s : Bool) (m : ℕ) (e : ℤ) → Parts f m e → HasValue (round f s (m * up e) (down e)) s (m * up e) (down e)
rounds f s m e p = let w = whole f m e p in round_exact f s (m * up e) (down e) m w.place (down_pos e) p.small w.under w.is

zero_rounds : (f : Format) (s : Bool) (e : ℤ) → HasValue (round f s (0 * up e) (down e)) s (0 * up e) (down e)
zero_rounds f s e =
    round_exact f s (0 * up e) (down e) 0 0 (down_pos e) (pow_pos (prec f)) (pow_pos (low f + suc (emax f)))
    (ap (λ (z : ℕ). z * 2 ^ low f) (zero-mul (up e)) ∙ zero-mul (2 ^ low f) ∙ sym (zero-mul (down e)))

own : (f : Format) (s : Bool) (m : ℕ) (e : ℤ) → T (fits f (fin s m e)) → HasValue (round f s (m * up e) (down e)) s (m * up e) (down e)
own f s zero e t = zero_rounds f s e
own f s (suc m) e t = rounds f s (suc m) e (fits_parts f s m e t)

pub round_own : (f : Format) (s : Bool) (m : ℕ) (e : ℤ) → T (fits f (fin s m e)) → round f s (m * up e) (down e) ≡ fin s m e
round_own f s m e t =
    value_unique f (round f s (m * up e) (down e)) (fin s m e) s (m * up e) (down e) (down_pos e) (round-fits f s (m * up e) (down e)) t (own f s m e t) (refl, refl)

-- ---- minus zero adds nothing

with_nothing : (f : Format) (t : Bool) (b c : ℕ) → sum f true 0 t b c ≡ round f t b c
unfolding sum
with_nothing f true b c = rw (zero-add b)
with_nothing f false b c = go (ltb 0 b) refl
  where
    go : (t : Bool) → ltb 0 b ≡ t → cond (ltb 0 b) (round f false (b - 0) c) (round f (true && ltb b 0) (0 - b) c) ≡ round f false b c
    go true e = rw (e, sub-zero b)
    go false e = let z : b ≡ 0 = omega (arith, ltb-false 0 b e) in rw z

pub minus_zero_adds : (x : Float) → T (fits binary64 x) → −0ᶠ ⊕ x ≡ x
unfolding add of_bits
minus_zero_adds nan t = refl
minus_zero_adds (inf s) t = refl
minus_zero_adds (fin s m e) t = at (m * up e) (down e) (round_own binary64 s m e t)
  where
    at : (b c : ℕ) → round binary64 s b c ≡ fin s m e → sum binary64 true (0 * 1 * c) s (b * 1) (1 * c) ≡ fin s m e
    at b c h = rw (zero-mul c, mul-one b, one-mul c) (with_nothing binary64 s b c ∙ h)
