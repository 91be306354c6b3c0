-- `sqrt_of` is IEEE 754's squareRoot with rounding to nearest: no tie occurs, and every other value of binary64 lies farther from the true root. Assumes nothing.
use Rattle.std.specs.Prelude.{◌≡◌, refl, Bool, true, false, not, ℕ, zero, suc, ◌+◌, ◌-◌, ◌*◌, ◌/◌, ◌%◌, ◌^◌, ◌≤◌, ◌<◌, ℤ, T, ltb, Float}
use Rattle.std.proofs.Common.{sym, ap, ◌∙◌, subst, inl, inr, mul-le-mul, mul-le-mul_right, lt_of_mul-lt-mul_right, lt_of_not-le, not-le_of_lt, le_of_lt, le_trans, lt_of_lt_of_le, lt_of_le_of_lt, le_of_eq, le_of_suc-le-suc, mul-pos, sub-le, not-suc-le-zero, zero-lt-suc, add-one-le, arith, nltb→le, ltb→lt, pow_pos, pow_mono}
use Rattle.std.proofs.Math.Nat.{pow-succ', mul-lt-mul_of_pos_left}
use Rattle.std.proofs.Math.Arith.{lt_of_le-ne}
use Rattle.std.specs.Float.{binary64, nan, inf, fin}
use Rattle.std.specs.Float.Ieee.{units, fits}
use Rattle.std.specs.Float.Ieee.Digits.{back}
use Rattle.std.specs.Float.Ieee.Exact.{HasValue, units_val}
use Rattle.std.specs.Float.Ieee.Positive.{positive}
use Rattle.std.specs.Float.Ieee.Scale.{finite}
use Rattle.std.specs.Float.Ieee.Fits.{nan-fits, inf-fits}
use Rattle.std.specs.Float.Ieee.Bits.{of_bits-fits}
use Rattle.numbers.specs.Sqrt.{units_of, square_of, rounded, sqrt_of, negative, Nearer, NearestRoot}
use Rattle.numbers.specs.laws.Rounded.{Form, form, rounded_scaled, root_least, half_least, half_most, even_square, from_kept, below_next, below_middle, above_middle}
use Rattle.numbers.specs.laws.Values.{pow_join, value_unique}
use Rattle.numbers.specs.laws.Units.{placed, value_units, units_bits, in_range, at_positive}

-- No value of the format lies between q * 2 ^ k and (q + 1) * 2 ^ k units, for a q of 53 digits.
grid : (q k n j : ℕ) → 2 ^ 52 ≤ q → n < 2 ^ 53 → q * 2 ^ k < n * 2 ^ j → (q + 1) * 2 ^ k ≤ n * 2 ^ j
grid q k n j l h g =
    let i : k ≤ j = le_of_suc-le-suc (lt_of_not-le (λ (b : suc j ≤ k). not-le_of_lt g (low b))) in
    let e : n * 2 ^ (j - k) * 2 ^ k ≡ n * 2 ^ j = pow_join n (j - k) k ∙ ap (λ (x : ℕ). n * 2 ^ x) (back j k i) in
    subst (λ (x : ℕ). (q + 1) * 2 ^ k ≤ x) e
    (mul-le-mul_right (2 ^ k) (add-one-le (lt_of_mul-lt-mul_right (2 ^ k) (subst (λ (x : ℕ). q * 2 ^ k < x) (sym e) g))))
  where
    twice : (n p q : ℕ) → n < 2 ^ 53 → 2 ^ 52 * (2 * p) ≤ q → n * p ≤ q
    twice n p q x y = le_trans (mul-le-mul_right p (le_of_lt x)) (le_trans (le_of_eq (omega arith)) y)

    low : suc j ≤ k → n * 2 ^ j ≤ q * 2 ^ k
    low b = twice n (2 ^ j) (q * 2 ^ k) h (le_trans (le_of_eq (ap (λ (x : ℕ). 2 ^ 52 * x) (sym (pow-succ' 2 j)))) (mul-le-mul l (pow_mono b)))

-- ---- nearer to √N

sq_mono : {a b : ℕ} → a ≤ b → a * a ≤ b * b
sq_mono h = mul-le-mul h h

sq_lt : {a b : ℕ} → a < b → a * a < b * b
sq_lt {a} {b} h = lt_of_le_of_lt (mul-le-mul_right a (le_of_lt h)) (mul-lt-mul_of_pos_left h (pos_of h))
  where
    pos_of : a < b → 0 < b
    pos_of l = omega arith

-- r is nearer than u where it is so on each side of r.
by_sides : (N r u : ℕ) → (u ≡ r → ⊥) → (r < u → 4 * N < (r + u) * (r + u)) → (u < r → (r + u) * (r + u) < 4 * N) → Nearer N r false u
by_sides N r u ne over under = go (ltb r u) (ltb→lt r u) (nltb→le r u)
  where
    go : (t : Bool) → (T t → r < u) → (T (not t) → u ≤ r) → Nearer N r false u
    go true a b = inl (a tt, over (a tt))
    go false a b = let l : u < r = lt_of_le-ne (b tt) ne in inr (l, under l)

module _ (N q P u : ℕ) (gap : q * P < u → (q + 1) * P ≤ u) where
  nearer_down : 4 * (q * P * (q * P)) ≤ 4 * N → 4 * N < (2 * q + 1) * P * ((2 * q + 1) * P) → (u ≡ q * P → ⊥) → Nearer N (q * P) false u
  nearer_down l m ne = by_sides N (q * P) u ne (λ h. lt_of_lt_of_le m (sq_mono (le_trans (le_of_eq (omega arith)) (add_le (gap h))))) (λ h. lt_of_lt_of_le (sq_lt (add_lt h)) (le_trans (le_of_eq (omega arith)) l))
    where
      add_le : (q + 1) * P ≤ u → q * P + (q + 1) * P ≤ q * P + u
      add_le h = omega arith

      add_lt : u < q * P → q * P + u < 2 * (q * P)
      add_lt h = omega arith

  nearer_up : 4 * N < 4 * ((q + 1) * P * ((q + 1) * P)) → (2 * q + 1) * P * ((2 * q + 1) * P) < 4 * N → (u ≡ (q + 1) * P → ⊥) → Nearer N ((q + 1) * P) false u
  nearer_up l m ne = by_sides N ((q + 1) * P) u ne (λ h. lt_of_lt_of_le l (le_trans (le_of_eq (omega arith)) (sq_mono (add_lt h)))) (λ h. lt_of_le_of_lt (sq_mono (le_trans (add_le h) (le_of_eq (omega arith)))) m)
    where
      add_lt : (q + 1) * P < u → 2 * ((q + 1) * P) ≤ (q + 1) * P + u
      add_lt h = omega arith

      below : u < (q + 1) * P → u ≤ q * P
      below h = le_of_suc-le-suc (lt_of_not-le (λ (g : suc (q * P) ≤ u). not-le_of_lt h (gap g)))

      add_le : u < (q + 1) * P → (q + 1) * P + u ≤ (q + 1) * P + q * P
      add_le h = let b = below h in omega arith

-- ---- the theorems

-- x has N = m * 2 ^ 54 * 4 ^ g, its root a, and the rounded root ((a + 1) / 2) * 2 ^ (g + 1) units
record Rooted (x : Float) : Type 0 where
  pub parts : Form (square_of (units_of x))
  pub is : sqrt_of x ≡ units binary64 false ((parts.a + 1) / 2) (parts.g + 1)

rooted : (m : ℕ) (e : ℤ) → T (fits binary64 (fin false (suc m) e)) → Rooted (fin false (suc m) e)
rooted m e f =
    let x = fin false (suc m) e in
    let p = placed false (suc m) e f in
    let j = p.place in
    let N_is : square_of (units_of x) ≡ suc m * 2 ^ (j + 1074) =
    ap (λ (n : ℕ). n * 2 ^ 1074) (value_units x false (suc m * 2 ^ j) p.value) ∙ pow_join (suc m) j 1074 in
    let d = form (suc m) (j + 1074) (zero-lt-suc m) p.small (far_up j) (near j p.reach) in
    let F : Form (square_of (units_of x)) = subst Form (sym N_is) d in
    record { parts = F; is = at_positive (suc m) e (zero-lt-suc m) ∙ ap rounded F.square ∙ rounded_scaled F.m F.a F.g F.scaled }
  where
    far_up : (j : ℕ) → 107 ≤ j + 1074
    far_up j = omega arith

    near : (j : ℕ) → j ≤ 2097 → j + 1074 ≤ 3171
    near j h = omega arith

module _ (x : Float) (r : Rooted x) where
  abbrev root : ℕ
  root = (r.parts.a + 1) / 2

  abbrev place : ℕ
  place = r.parts.g + 1

  place_reach : place ≤ 2045
  place_reach = let l = r.parts.reach in omega arith

  rooted_value : HasValue (sqrt_of x) false (root * 2 ^ place) (2 ^ 1074)
  rooted_value =
      subst (λ (y : Float). HasValue y false (root * 2 ^ place) (2 ^ 1074)) (sym r.is)
      (units_val binary64 false root place (in_range root place (half_most r.parts.m r.parts.a r.parts.scaled) place_reach))

  rooted_fits : T (fits binary64 (sqrt_of x))
  rooted_fits =
      subst (λ (y : Float). T (fits binary64 y))
      (units_bits root place (half_least r.parts.m r.parts.a r.parts.scaled) (half_most r.parts.m r.parts.a r.parts.scaled) place_reach ∙ sym r.is)
      (of_bits-fits binary64 (place * 2 ^ 52 + root))

  -- against a number of u units that is not the root's
  rooted_nearer : (u : ℕ) → (r.parts.a / 2 * 2 ^ place < u → (r.parts.a / 2 + 1) * 2 ^ place ≤ u) → (u ≡ root * 2 ^ place → ⊥) → Nearer (square_of (units_of x)) (root * 2 ^ place) false u
  rooted_nearer u G ne =
      let F = r.parts in
      let q = F.a / 2 in
      let P = 2 ^ place in
      let M = F.m * 2 ^ 54 in
      subst (λ (N : ℕ). Nearer N (root * P) false u) (sym F.square) (go (F.a % 2) refl)
    where
      go : (t : ℕ) → r.parts.a % 2 ≡ t → Nearer (r.parts.m * 2 ^ 54 * 4 ^ r.parts.g) (root * 2 ^ place) false u
      go zero e =
          let F = r.parts in
          let i : root ≡ F.a / 2 = omega arith in
          subst (λ (z : ℕ). Nearer (F.m * 2 ^ 54 * 4 ^ F.g) (z * 2 ^ place) false u) (sym i)
          (nearer_down (F.m * 2 ^ 54 * 4 ^ F.g) (F.a / 2) (2 ^ place) u G
          (from_kept (F.m * 2 ^ 54) F.a F.g (even_square F.m) F.scaled.root)
          (below_middle (F.m * 2 ^ 54) F.a F.g (even_square F.m) F.scaled.root e)
          (λ h. ne (h ∙ ap (λ (z : ℕ). z * 2 ^ place) (sym i))))
      go (suc t) e =
          let F = r.parts in
          let o : F.a % 2 ≡ 1 = omega arith in
          let i : root ≡ F.a / 2 + 1 = omega arith in
          subst (λ (z : ℕ). Nearer (F.m * 2 ^ 54 * 4 ^ F.g) (z * 2 ^ place) false u) (sym i)
          (nearer_up (F.m * 2 ^ 54 * 4 ^ F.g) (F.a / 2) (2 ^ place) u G
          (below_next (F.m * 2 ^ 54) F.a F.g (even_square F.m) F.scaled.root)
          (above_middle (F.m * 2 ^ 54) F.a F.g (even_square F.m) F.scaled.root o)
          (λ h. ne (h ∙ ap (λ (z : ℕ). z * 2 ^ place) (sym i))))

-- zero lies farther than r: r * r < 4 * N
zero_farther : (N r : ℕ) → Nearer N r false 0 → r * r < 4 * N
zero_farther N r (inl h) = absurd (not-suc-le-zero h.0)
zero_farther N r (inr h) = lt_of_le_of_lt (le_of_eq (omega arith)) h.1

-- For every other f64 the root lies strictly nearer: x positive and finite, y finite.
strictly_nearer : (x y : Float) → T (fits binary64 x) → T (positive x) → T (fits binary64 y) → T (finite y) → (y ≡ sqrt_of x → ⊥)
    → Nearer (square_of (units_of x)) (units_of (sqrt_of x)) (negative y) (units_of y)
strictly_nearer nan y f p g h ne = absurd p
strictly_nearer (inf s) y f p g h ne = absurd p
strictly_nearer (fin true m e) y f p g h ne = absurd p
strictly_nearer (fin false zero e) y f p g h ne = absurd p
strictly_nearer (fin false (suc m) e) nan f p g h ne = absurd h
strictly_nearer (fin false (suc m) e) (inf s) f p g h ne = absurd h
strictly_nearer (fin false (suc m) e) (fin t n d) f p g h ne = go t g ne
  where
    x : Float
    x = fin false (suc m) e

    r : Rooted x
    r = rooted m e f

    root_units : units_of (sqrt_of x) ≡ root x r * 2 ^ place x r
    root_units = value_units (sqrt_of x) false (root x r * 2 ^ place x r) (rooted_value x r)

    half_pos : 0 < root x r
    half_pos = let l = half_least r.parts.m r.parts.a r.parts.scaled in omega arith

    not_zero : 0 ≡ root x r * 2 ^ place x r → ⊥
    not_zero q = let l = mul-pos half_pos (pow_pos (place x r)) in omega arith

    go : (t : Bool) → T (fits binary64 (fin t n d)) → (fin t n d ≡ sqrt_of x → ⊥) → Nearer (square_of (units_of x)) (units_of (sqrt_of x)) t (units_of (fin t n d))
    go false g ne =
        let P = placed false n d g in
        let u : units_of (fin false n d) ≡ n * 2 ^ P.place = value_units (fin false n d) false (n * 2 ^ P.place) P.value in
        rw (root_units, u)
        (rooted_nearer x r (n * 2 ^ P.place)
        (grid (r.parts.a / 2) (place x r) n P.place (let l = root_least r.parts.m r.parts.a r.parts.scaled in omega arith) P.small)
        (λ q. ne (value_unique binary64 (fin false n d) (sqrt_of x) false (n * 2 ^ P.place) (2 ^ 1074) (pow_pos 1074) g (rooted_fits x r) P.value (subst (λ (z : ℕ). HasValue (sqrt_of x) false z (2 ^ 1074)) (sym q) (rooted_value x r)))))
    go true g ne =
        rw root_units
        (lt_of_le_of_lt (sq_mono (sub-le (root x r * 2 ^ place x r) (units_of (fin true n d))))
        (zero_farther (square_of (units_of x)) (root x r * 2 ^ place x r) (rooted_nearer x r 0 (λ l. absurd (not-suc-le-zero l)) not_zero)))

-- the root of a value of the format is one
pub sqrt_fits : (x : Float) → T (fits binary64 x) → T (fits binary64 (sqrt_of x))
unfolding sqrt_of
sqrt_fits nan f = nan-fits binary64
sqrt_fits (inf false) f = inf-fits binary64 false
sqrt_fits (inf true) f = nan-fits binary64
sqrt_fits (fin s zero e) f = f
sqrt_fits (fin true (suc m) e) f = nan-fits binary64
sqrt_fits (fin false (suc m) e) f = rooted_fits (fin false (suc m) e) (rooted m e f)

value_finite : (x : Float) (s : Bool) (a c : ℕ) → HasValue x s a c → T (finite x) × (negative x ≡ s)
value_finite nan s a c v = absurd v
value_finite (inf t) s a c v = absurd v
value_finite (fin t m e) s a c v = (tt, v.0)

-- `sqrt_of` gives IEEE 754's root.
pub sqrt_nearest : (x : Float) → T (fits binary64 x) → T (positive x) → NearestRoot x (sqrt_of x)
sqrt_nearest nan f p = absurd p
sqrt_nearest (inf s) f p = absurd p
sqrt_nearest (fin true m e) f p = absurd p
sqrt_nearest (fin false zero e) f p = absurd p
sqrt_nearest (fin false (suc m) e) f p =
    let x = fin false (suc m) e in
    let v = value_finite (sqrt_of x) false _ _ (rooted_value x (rooted m e f)) in
    record { is_f64 = sqrt_fits x f; is_finite = v.0; not_below_zero = v.1; nearer = λ y. strictly_nearer x y f p }
