-- The order of floats off NaN: `lt` is a strict weak order, and the values that it does not part are equal by `eq`. Assumes nothing.
use Rattle.std.specs.Prelude.{◌≡◌, refl, Bool, true, false, ℕ, ◌≤◌, ◌<◌, ◌+◌, ◌*◌, Float}
use Rattle.std.proofs.Common.{sym, true≢false, mul-le-mul_right, le_of_mul-le-mul_right, mul_right_comm, add-mul, zero-mul, arith, ltb-true, ltb-false, le-ltb, eq-eqb}
use Rattle.std.specs.Float.{nan, inf, fin}
use Rattle.std.specs.Float.Ieee.{up, down, below, level, lt, eq, is_nan, of_bits}
use Rattle.std.specs.Float.Ieee.Fits.{down_pos}
use Rattle.numbers.specs.F64.{0ᶠ}
use Rattle.oracles.specs.Scan.{−∞}

-- ---- naturals with a sign, as a finite float has them: ±a ≤ ±b
abbrev SignedLe : Bool → ℕ → Bool → ℕ → Type 0
SignedLe false a false b = a ≤ b
SignedLe false a true b = b + a ≤ 0
SignedLe true a false b = Unit {0}
SignedLe true a true b = b ≤ a

signed_trans : (s : Bool) (a : ℕ) (t : Bool) (b : ℕ) (u : Bool) (c : ℕ) → SignedLe s a t b → SignedLe t b u c → SignedLe s a u c
signed_trans false a false b false c h k = omega arith
signed_trans false a false b true c h k = omega arith
signed_trans false a true b false c h k = omega arith
signed_trans false a true b true c h k = omega arith
signed_trans true a false b false c h k = tt
signed_trans true a false b true c h k = omega arith
signed_trans true a true b false c h k = tt
signed_trans true a true b true c h k = omega arith

-- both sides times k, and back
signed_scale : (s : Bool) (a : ℕ) (t : Bool) (b k : ℕ) → SignedLe s a t b → SignedLe s (a * k) t (b * k)
signed_scale false a false b k h = mul-le-mul_right k h
signed_scale false a true b k h =
    let e : a ≡ 0 = omega arith in
    let f : b ≡ 0 = omega arith in
    rw (e, f, zero-mul) (omega arith)
signed_scale true a false b k h = tt
signed_scale true a true b k h = mul-le-mul_right k h

signed_cancel : (s : Bool) (a : ℕ) (t : Bool) (b k : ℕ) → 0 < k → SignedLe s (a * k) t (b * k) → SignedLe s a t b
signed_cancel false a false b k p h = le_of_mul-le-mul_right h p
signed_cancel false a true b k p h = le_of_mul-le-mul_right (rw (add-mul b a k, zero-mul k) h) p
signed_cancel true a false b k p h = tt
signed_cancel true a true b k p h = le_of_mul-le-mul_right h p

-- ±a ≤ ±b is "not ±b < ±a"
signed_of : (s : Bool) (a : ℕ) (t : Bool) (b : ℕ) → below t b s a ≡ false → SignedLe s a t b
signed_of false a false b e = ltb-false b a e
signed_of false a true b e = ltb-false 0 (b + a) e
signed_of true a false b e = tt
signed_of true a true b e = ltb-false a b e

signed_to : (s : Bool) (a : ℕ) (t : Bool) (b : ℕ) → SignedLe s a t b → below t b s a ≡ false
signed_to false a false b h = le-ltb b a h
signed_to false a true b h = le-ltb 0 (b + a) h
signed_to true a false b h = refl
signed_to true a true b h = le-ltb a b h

signed_asym : (s : Bool) (a : ℕ) (t : Bool) (b : ℕ) → below s a t b ≡ true → below t b s a ≡ false
signed_asym false a false b h = le-ltb b a (omega (arith, ltb-true a b h))
signed_asym false a true b h = absurd (true≢false (sym h))
signed_asym true a false b h = refl
signed_asym true a true b h = le-ltb a b (omega (arith, ltb-true b a h))

signed_level : (s : Bool) (a : ℕ) (t : Bool) (b : ℕ) → below s a t b ≡ false → below t b s a ≡ false → level s a t b ≡ true
signed_level false a false b h k = rw (eq-eqb a b (omega (arith, ltb-false a b h, ltb-false b a k)))
signed_level false a true b h k = rw (eq-eqb a b (omega (arith, ltb-false 0 (b + a) k)), eq-eqb a 0 (omega (arith, ltb-false 0 (b + a) k)))
signed_level true a false b h k = rw (eq-eqb a b (omega (arith, ltb-false 0 (a + b) h)), eq-eqb a 0 (omega (arith, ltb-false 0 (a + b) h)))
signed_level true a true b h k = rw (eq-eqb a b (omega (arith, ltb-false b a h, ltb-false a b k)))

-- three fractions ±x / p, ±y / q and ±z / r
fraction_trans : (s : Bool) (x p : ℕ) (t : Bool) (y q : ℕ) (u : Bool) (z r : ℕ) → 0 < q → SignedLe s (x * q) t (y * p) → SignedLe t (y * r) u (z * q) → SignedLe s (x * r) u (z * p)
fraction_trans s x p t y q u z r Q h k =
    let h' : SignedLe s (x * r * q) t (y * r * p) = rw (mul_right_comm x r q, mul_right_comm y r p) (signed_scale s (x * q) t (y * p) r h) in
    let k' : SignedLe t (y * r * p) u (z * p * q) = rw (mul_right_comm z p q) (signed_scale t (y * r) u (z * q) p k) in
    signed_cancel s (x * r) u (z * p) q Q (signed_trans s (x * r * q) t (y * r * p) u (z * p * q) h' k')

-- ---- floats

-- "not above" is transitive where the middle one is no NaN: a ≤ b ≤ c
pub nlt_trans : (a b c : Float) → is_nan b ≡ false → lt b a ≡ false → lt c b ≡ false → lt c a ≡ false
unfolding lt is_nan
nlt_trans a b nan n h k = refl
nlt_trans nan b (inf u) n h k = refl
nlt_trans nan b (fin u z g) n h k = refl
nlt_trans (inf s) nan (inf u) n h k = absurd (true≢false n)
nlt_trans (inf s) nan (fin u z g) n h k = absurd (true≢false n)
nlt_trans (fin s x e) nan (inf u) n h k = absurd (true≢false n)
nlt_trans (fin s x e) nan (fin u z g) n h k = absurd (true≢false n)
nlt_trans (inf true) (inf t) (inf true) n h k = refl
nlt_trans (inf true) (inf t) (inf false) n h k = refl
nlt_trans (inf false) (inf true) (inf u) n h k = absurd (true≢false h)
nlt_trans (inf false) (inf false) (inf true) n h k = absurd (true≢false k)
nlt_trans (inf false) (inf false) (inf false) n h k = refl
nlt_trans (inf true) (inf t) (fin u z g) n h k = refl
nlt_trans (inf false) (inf true) (fin u z g) n h k = absurd (true≢false h)
nlt_trans (inf false) (inf false) (fin u z g) n h k = absurd (true≢false k)
nlt_trans (inf true) (fin t y d) (inf true) n h k = refl
nlt_trans (inf true) (fin t y d) (inf false) n h k = refl
nlt_trans (inf false) (fin t y d) (inf u) n h k = absurd (true≢false h)
nlt_trans (inf true) (fin t y d) (fin u z g) n h k = refl
nlt_trans (inf false) (fin t y d) (fin u z g) n h k = absurd (true≢false h)
nlt_trans (fin s x e) (inf true) (inf u) n h k = absurd (true≢false h)
nlt_trans (fin s x e) (inf false) (inf true) n h k = absurd (true≢false k)
nlt_trans (fin s x e) (inf false) (inf false) n h k = refl
nlt_trans (fin s x e) (inf true) (fin u z g) n h k = absurd (true≢false h)
nlt_trans (fin s x e) (inf false) (fin u z g) n h k = absurd (true≢false k)
nlt_trans (fin s x e) (fin t y d) (inf true) n h k = absurd (true≢false k)
nlt_trans (fin s x e) (fin t y d) (inf false) n h k = refl
nlt_trans (fin s x e) (fin t y d) (fin u z g) n h k =
    signed_to s (x * up e * down g) u (z * up g * down e)
    (fraction_trans s (x * up e) (down e) t (y * up d) (down d) u (z * up g) (down g) (down_pos d)
    (signed_of s (x * up e * down d) t (y * up d * down e) h) (signed_of t (y * up d * down g) u (z * up g * down d) k))

pub lt_asym : (a b : Float) → lt a b ≡ true → lt b a ≡ false
unfolding lt
lt_asym nan b h = absurd (true≢false (sym h))
lt_asym (inf s) nan h = absurd (true≢false (sym h))
lt_asym (inf true) (inf true) h = refl
lt_asym (inf true) (inf false) h = refl
lt_asym (inf false) (inf t) h = absurd (true≢false (sym h))
lt_asym (inf true) (fin t y d) h = refl
lt_asym (inf false) (fin t y d) h = absurd (true≢false (sym h))
lt_asym (fin s x e) nan h = absurd (true≢false (sym h))
lt_asym (fin s x e) (inf true) h = absurd (true≢false (sym h))
lt_asym (fin s x e) (inf false) h = refl
lt_asym (fin s x e) (fin t y d) h = signed_asym s (x * up e * down d) t (y * up d * down e) h

pub lt_irrefl : (a : Float) → lt a a ≡ false
lt_irrefl a = go (lt a a) refl
  where
    go : (b : Bool) → lt a a ≡ b → lt a a ≡ false
    go true e = lt_asym a a e
    go false e = e

-- what lies above something is no NaN
pub above_compares : (a b : Float) → lt a b ≡ true → is_nan b ≡ false
unfolding lt is_nan
above_compares nan nan h = sym h
above_compares (inf s) nan h = sym h
above_compares (fin s m e) nan h = sym h
above_compares a (inf s) h = refl
above_compares a (fin s m e) h = refl

-- neither below the other: equal, both zeros counted as one
pub nlt_eq : (a b : Float) → is_nan a ≡ false → is_nan b ≡ false → lt a b ≡ false → lt b a ≡ false → eq a b ≡ true
unfolding lt eq is_nan
nlt_eq nan b m n h k = absurd (true≢false m)
nlt_eq (inf s) nan m n h k = absurd (true≢false n)
nlt_eq (inf true) (inf true) m n h k = refl
nlt_eq (inf true) (inf false) m n h k = sym h
nlt_eq (inf false) (inf true) m n h k = sym k
nlt_eq (inf false) (inf false) m n h k = refl
nlt_eq (inf true) (fin t y d) m n h k = sym h
nlt_eq (inf false) (fin t y d) m n h k = sym k
nlt_eq (fin s x e) nan m n h k = absurd (true≢false n)
nlt_eq (fin s x e) (inf true) m n h k = sym k
nlt_eq (fin s x e) (inf false) m n h k = sym h
nlt_eq (fin s x e) (fin t y d) m n h k = signed_level s (x * up e * down d) t (y * up d * down e) h k

-- neither above −∞ nor below zero: a NaN
pub only_nan : (a : Float) → lt −∞ a ≡ false → lt a 0ᶠ ≡ false → is_nan a ≡ true
unfolding lt is_nan of_bits
only_nan nan h k = refl
only_nan (inf true) h k = sym k
only_nan (inf false) h k = sym h
only_nan (fin s m e) h k = sym h
