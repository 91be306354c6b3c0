-- `rounded` at N = m * 2 ^ 54 * 4 ^ g, a form that every positive number has: 54 digits of the root decide. Assumes nothing.
use Rattle.std.specs.Prelude.{◌≡◌, refl, not, T}
use Rattle.std.proofs.Common.{sym, ◌∙◌, subst, mul-le-mul, mul-le-mul_right, mul-lt-mul_of_pos_right, lt_of_not-le, not-le_of_lt, le_antisymm, le_trans, lt_of_lt_of_le, lt_of_le_of_lt, le_of_eq, le_of_suc-le-suc, div-mul-le_self, mul-pos, mul_assoc, arith, leb→le, eqb→eq, pow-add, pow_pos, pow_mono, shl_lt}
use Rattle.std.proofs.Math.Path.{ap}
use Rattle.std.proofs.Math.Bool.{false}
use Prim.Native.Nat.{ℕ, zero, suc, ◌+◌, ◌-◌, ◌*◌, ◌/◌, ◌%◌, ◌^◌, ◌≤◌, ◌<◌, compare, Ordering}
use Rattle.std.proofs.Math.Nat.{lt-div-mul-add, div-div-eq-div-mul, pow-succ'}
use Rattle.std.proofs.Math.Dec.{is_le, compare_is_eq, nleb→lt}
use Rattle.std.specs.Float.Ieee.{of_bits, binary64, size, nearest, units}
use Rattle.std.specs.Float.Ieee.Digits.{size-lt, size-le, size_reaches}
use Rattle.numbers.specs.Sqrt.{isqrt, dropped, kept, middle, rounded, sqrt_of}
use Rattle.numbers.specs.laws.Values.{pow_join}
use Rattle.numbers.specs.laws.Isqrt.{IsRoot, sq_lt_back, root_unique, four_pow, isqrt_is, shifted_root}

-- the order of two numbers, as `compare` says it
compare_lt : (a b : ℕ) → a < b → compare a b ≡ Ordering.lt
compare_lt a b h = go (compare a b) (eqb→eq a b) (nleb→lt a b)
  where
    go : (o : Ordering) → (T (compare_is_eq o) → a ≡ b) → (T (not (is_le o)) → b < a) → o ≡ Ordering.lt
    go Ordering.lt e g = refl
    go Ordering.eq e g = let x = e tt in absurd (omega arith)
    go Ordering.gt e g = let x = g tt in absurd (omega arith)

compare_gt : (a b : ℕ) → b < a → compare a b ≡ Ordering.gt
compare_gt a b h = go (compare a b) (eqb→eq a b) (leb→le a b)
  where
    go : (o : Ordering) → (T (compare_is_eq o) → a ≡ b) → (T (is_le o) → a ≤ b) → o ≡ Ordering.gt
    go Ordering.lt e g = let x = g tt in absurd (omega arith)
    go Ordering.eq e g = let x = e tt in absurd (omega arith)
    go Ordering.gt e g = refl

-- m has 53 or 54 digits, and a is the whole part of √(m * 2 ^ 54).
pub record Scaled (m a : ℕ) : Type 0 where
  pub least : 2 ^ 52 ≤ m
  pub most : m ≤ 2 ^ 54 - 2
  pub root : IsRoot (m * 2 ^ 54) a

module _ (m a : ℕ) (s : Scaled m a) where
  -- a has 54 digits, and is not the last number that has
  pub root_least : 2 ^ 53 ≤ a
  root_least = le_of_suc-le-suc (lt_of_not-le (λ (g : suc a ≤ 2 ^ 53). not-le_of_lt s.root.above (le_trans (mul-le-mul (up g) (up g)) (big s.least))))
    where
      up : suc a ≤ 2 ^ 53 → a + 1 ≤ 2 ^ 53
      up g = omega arith

      big : 2 ^ 52 ≤ m → 2 ^ 53 * 2 ^ 53 ≤ m * 2 ^ 54
      big h = omega arith

  pub root_most : a + 2 ≤ 2 ^ 54
  root_most = step (sq_lt_back a (2 ^ 54 - 1) (lt_of_le_of_lt s.root.below (small s.most)))
    where
      step : a < 2 ^ 54 - 1 → a + 2 ≤ 2 ^ 54
      step h = omega arith

      small : m ≤ 2 ^ 54 - 2 → m * 2 ^ 54 < (2 ^ 54 - 1) * (2 ^ 54 - 1)
      small h = omega arith

  module _ (g w : ℕ) (r : IsRoot (m * 2 ^ 54 * 4 ^ g) w) where
    pub leading : w / 2 ^ g ≡ a
    leading = root_unique (shifted_root (m * 2 ^ 54) g w r) s.root

    pub digits : size w ≡ 54 + g
    digits = le_antisymm (size-le w (54 + g) under) (lt_of_not_le_size (λ (h : size w ≤ 53 + g). not-le_of_lt (lt_of_lt_of_le (size-lt w) (pow_mono h)) over))
      where
        split : (k : ℕ) → 2 ^ (k + g) ≡ 2 ^ k * 2 ^ g
        split k = pow-add 2 k g

        high : w < a * 2 ^ g + 2 ^ g
        high = subst (λ (x : ℕ). w < x * 2 ^ g + 2 ^ g) leading (lt-div-mul-add (pow_pos g))

        under : w < 2 ^ (54 + g)
        under = rw (split 54) (lt_of_lt_of_le high (le_trans (le_of_eq (omega arith)) (mul-le-mul_right (2 ^ g) (ends a root_most))))
          where
            ends : (x : ℕ) → x + 2 ≤ 2 ^ 54 → x + 1 ≤ 2 ^ 54
            ends x h = omega arith

        over : 2 ^ (53 + g) ≤ w
        over = rw (split 53) (le_trans (mul-le-mul_right (2 ^ g) root_least) (subst (λ (x : ℕ). x * 2 ^ g ≤ w) leading (div-mul-le_self w (2 ^ g))))

        lt_of_not_le_size : (size w ≤ 53 + g → ⊥) → 54 + g ≤ size w
        lt_of_not_le_size n = let x = lt_of_not-le n in omega arith

-- the significand of the rounded root has 53 digits
module _ (m a : ℕ) (s : Scaled m a) where
  pub half_least : 2 ^ 52 ≤ (a + 1) / 2
  half_least = let l = root_least m a s in omega arith

  pub half_most : (a + 1) / 2 < 2 ^ 53
  half_most = let l = root_most m a s in omega arith

-- ---- the middle between two neighbours is never met

-- 4 * N and the square of the middle, over the common factor 4 * 4 ^ g
middle_square : (b g : ℕ) → b * 2 ^ (g + 1) * (b * 2 ^ (g + 1)) ≡ b * b * (4 * 4 ^ g)
middle_square b g =
    let e : 2 ^ (g + 1) ≡ 2 ^ g * 2 = pow-add 2 g 1 in
    rw (e, four_pow g) (omega arith)

four_times : (M p : ℕ) → 4 * (M * p) ≡ M * (4 * p)
four_times M p = omega arith

-- M is even and a the whole part of its root. With q = a / 2 kept, √(M * 4 ^ g) lies from q to below q + 1 times 2 ^ (g + 1).
-- It lies below the middle where the last digit of a is 0, above it where that is 1, since then a * a is odd and is not M.
module _ (M a g : ℕ) (even : M % 2 ≡ 0) (r : IsRoot M a) where
  abbrev P : ℕ
  P = 2 ^ (g + 1)

  abbrev q : ℕ
  q = a / 2

  K : 0 < 4 * 4 ^ g
  K = let p : 0 < 4 ^ g = rw four_pow (mul-pos (pow_pos g) (pow_pos g)) in omega arith

  odd_square : (b : ℕ) → b % 2 ≡ 1 → b * b % 2 ≡ 1
  odd_square b o = let h : b ≡ 2 * (b / 2) + 1 = omega arith in rw h (omega arith)

  pub from_kept : 4 * (q * P * (q * P)) ≤ 4 * (M * 4 ^ g)
  from_kept = rw (middle_square q g, four_times M (4 ^ g)) (le_trans (le_of_eq (regroup (q * q) (4 * 4 ^ g))) (mul-le-mul_right (4 * 4 ^ g) (le_trans (le_of_eq (omega arith)) (le_trans (mul-le-mul low low) r.below))))
    where
      low : 2 * q ≤ a
      low = omega arith

      regroup : (x k : ℕ) → 4 * (x * k) ≡ 4 * x * k
      regroup x k = omega arith

  pub below_next : 4 * (M * 4 ^ g) < 4 * ((q + 1) * P * ((q + 1) * P))
  below_next = rw (middle_square (q + 1) g, four_times M (4 ^ g)) (lt_of_lt_of_le (mul-lt-mul_of_pos_right (lt_of_lt_of_le r.above (mul-le-mul high high)) K) (le_of_eq (regroup (4 * 4 ^ g))))
    where
      high : a + 1 ≤ 2 * (q + 1)
      high = omega arith

      regroup : (k : ℕ) → 2 * (q + 1) * (2 * (q + 1)) * k ≡ 4 * ((q + 1) * (q + 1) * k)
      regroup k = omega arith

  pub below_middle : a % 2 ≡ 0 → 4 * (M * 4 ^ g) < (2 * q + 1) * P * ((2 * q + 1) * P)
  below_middle e =
      let b : 2 * q + 1 ≡ a + 1 = omega arith in
      rw (middle_square (2 * q + 1) g, four_times M (4 ^ g)) (mul-lt-mul_of_pos_right (rw b r.above) K)

  pub above_middle : a % 2 ≡ 1 → (2 * q + 1) * P * ((2 * q + 1) * P) < 4 * (M * 4 ^ g)
  above_middle o =
      let b : 2 * q + 1 ≡ a = omega arith in
      rw (middle_square (2 * q + 1) g, four_times M (4 ^ g)) (mul-lt-mul_of_pos_right (rw b (strict (a * a) M (odd_square a o) even r.below)) K)
    where
      strict : (x y : ℕ) → x % 2 ≡ 1 → y % 2 ≡ 0 → x ≤ y → x < y
      strict x y p q h = omega arith

-- as `compare` says it
abbrev side_of : ℕ → Ordering
side_of zero = Ordering.lt
side_of (suc d) = Ordering.gt

side : (M a g : ℕ) → M % 2 ≡ 0 → IsRoot M a
    → compare (4 * (M * 4 ^ g)) ((2 * (a / 2) + 1) * 2 ^ (g + 1) * ((2 * (a / 2) + 1) * 2 ^ (g + 1))) ≡ side_of (a % 2)
side M a g even r = go (a % 2) refl
  where
    N : ℕ
    N = 4 * (M * 4 ^ g)

    b : ℕ
    b = (2 * (a / 2) + 1) * 2 ^ (g + 1)

    go : (t : ℕ) → a % 2 ≡ t → compare N (b * b) ≡ side_of t
    go zero e = compare_lt N (b * b) (below_middle M a g even r e)
    go (suc t) e = let o : a % 2 ≡ 1 = omega arith in compare_gt N (b * b) (above_middle M a g even r o)

half_up : (a : ℕ) → nearest (a / 2) (side_of (a % 2)) ≡ (a + 1) / 2
half_up a = go (a % 2) refl
  where
    go : (t : ℕ) → a % 2 ≡ t → nearest (a / 2) (side_of t) ≡ (a + 1) / 2
    go zero e = omega arith
    go (suc t) e = omega arith

pub even_square : (m : ℕ) → m * 2 ^ 54 % 2 ≡ 0
even_square m = omega arith

-- ---- the parts of `rounded` at N = m * 2 ^ 54 * 4 ^ g
module _ (m a g : ℕ) (s : Scaled m a) where
  abbrev N : ℕ
  N = m * 2 ^ 54 * 4 ^ g

  dropped_is : dropped N ≡ g + 1
  dropped_is = let d = digits m a s g (isqrt N) (isqrt_is N) in omega arith

  kept_is : kept N ≡ a / 2
  kept_is =
      let w = isqrt N in
      ap (λ (k : ℕ). w / 2 ^ k) dropped_is
      ∙ ap (λ (x : ℕ). w / x) (pow-add 2 g 1)
      ∙ sym (div-div-eq-div-mul w (2 ^ g) 2)
      ∙ ap (λ (x : ℕ). x / 2) (leading m a s g w (isqrt_is N))

  middle_is : middle N ≡ (2 * (a / 2) + 1) * 2 ^ (g + 1)
  middle_is = ap (λ (k : ℕ). (2 * kept N + 1) * 2 ^ k) dropped_is ∙ ap (λ (q : ℕ). (2 * q + 1) * 2 ^ (g + 1)) kept_is

  side_is : compare (4 * N) (middle N * middle N) ≡ side_of (a % 2)
  side_is = ap (λ (x : ℕ). compare (4 * N) (x * x)) middle_is ∙ side (m * 2 ^ 54) a g (even_square m) s.root

  -- the 53 leading digits of a, rounded at the 54th
  pub rounded_scaled : rounded N ≡ units binary64 false ((a + 1) / 2) (g + 1)
  unfolding rounded
  rounded_scaled =
      ap (λ (o : Ordering). units binary64 false (nearest (kept N) o) (dropped N)) side_is
      ∙ ap (λ (q : ℕ). units binary64 false (nearest q (side_of (a % 2))) (dropped N)) kept_is
      ∙ ap (λ (k : ℕ). units binary64 false (nearest (a / 2) (side_of (a % 2))) k) dropped_is
      ∙ ap (λ (x : ℕ). units binary64 false x (g + 1)) (half_up a)

-- ---- every positive number has such a form

pub even_exponent : (m e : ℕ) → 54 ≤ e → e % 2 ≡ 0 → m * 2 ^ 54 * 4 ^ (e / 2 - 27) ≡ m * 2 ^ e
even_exponent m e h p =
    let g = e / 2 - 27 in
    let d : e ≡ 54 + (g + g) = omega arith in
    mul_assoc m (2 ^ 54) (4 ^ g) ∙ ap (λ (x : ℕ). m * x) (ap (λ (x : ℕ). 2 ^ 54 * x) (four_pow g ∙ sym (pow-add 2 g g)) ∙ sym (pow-add 2 54 (g + g)) ∙ ap (λ (x : ℕ). 2 ^ x) (sym d))

pub odd_exponent : (m e : ℕ) → 54 ≤ e → e % 2 ≡ 1 → m * 2 * 2 ^ 54 * 4 ^ (e / 2 - 27) ≡ m * 2 ^ e
odd_exponent m e h p =
    let b : (e - 1) / 2 ≡ e / 2 = omega arith in
    let f = even_exponent (m * 2) (e - 1) (omega arith) (omega arith) in
    let d : suc (e - 1) ≡ e = omega arith in
    ap (λ (x : ℕ). m * 2 * 2 ^ 54 * 4 ^ (x - 27)) (sym b) ∙ f ∙ mul_assoc m 2 (2 ^ (e - 1)) ∙ ap (λ (x : ℕ). m * x) (sym (pow-succ' 2 (e - 1)) ∙ ap (λ (x : ℕ). 2 ^ x) d)

-- N as m * 2 ^ 54 * 4 ^ g, with the root of m * 2 ^ 54. For an f64 N is n * 2 ^ e with e at most 3171, so that g is at most 1558.
pub record Form (N : ℕ) : Type 0 where
  pub m : ℕ
  pub a : ℕ
  pub g : ℕ
  pub scaled : Scaled m a
  pub square : N ≡ m * 2 ^ 54 * 4 ^ g
  pub reach : g ≤ 1558

form_normal : (m e : ℕ) → 2 ^ 52 ≤ m → m < 2 ^ 53 → 54 ≤ e → e ≤ 3171 → Form (m * 2 ^ e)
form_normal m e l u k b = go (e % 2) refl
  where
    at : (m' : ℕ) → 2 ^ 52 ≤ m' → m' ≤ 2 ^ 54 - 2 → m' * 2 ^ 54 * 4 ^ (e / 2 - 27) ≡ m * 2 ^ e → Form (m * 2 ^ e)
    at m' x y z = record {
      m = m';
      a = isqrt (m' * 2 ^ 54);
      g = e / 2 - 27;
      scaled = record { least = x; most = y; root = isqrt_is (m' * 2 ^ 54) };
      square = sym z;
      reach = omega arith;
    }

    go : (t : ℕ) → e % 2 ≡ t → Form (m * 2 ^ e)
    go zero p = at m l (omega arith) (even_exponent m e k p)
    go (suc t) p = at (m * 2) (omega arith) (omega arith) (odd_exponent m e k (omega arith))

size_pos : (n : ℕ) → 0 < n → 0 < size n
size_pos n p = go (size n) (size-lt n)
  where
    go : (j : ℕ) → n < 2 ^ j → 0 < j
    go zero l = absurd (none l)
      where
        none : n < 1 → ⊥
        none w = omega arith
    go (suc j) l = omega arith

-- a number of at most 53 digits, moved up so that it has 53
pub form : (n e : ℕ) → 0 < n → n < 2 ^ 53 → 107 ≤ e → e ≤ 3171 → Form (n * 2 ^ e)
form n e p u k b = subst Form moved (form_normal (n * 2 ^ z) (e - z) lower upper (omega arith) (omega arith))
  where
    few : size n ≤ 53
    few = size-le n 53 u

    some : 0 < size n
    some = size_pos n p

    z : ℕ
    z = 53 - size n

    upper : n * 2 ^ z < 2 ^ 53
    upper = let d : size n + z ≡ 53 = omega (arith, few) in subst (λ (x : ℕ). n * 2 ^ z < 2 ^ x) d (shl_lt (size n) z (size-lt n))

    lower : 2 ^ 52 ≤ n * 2 ^ z
    lower =
        let d : size n - 1 + z ≡ 52 = omega (arith, few, some) in
        subst (λ (x : ℕ). x ≤ n * 2 ^ z) (sym (pow-add 2 (size n - 1) z) ∙ ap (λ (x : ℕ). 2 ^ x) d)
        (mul-le-mul_right (2 ^ z) (size_reaches n (size n - 1) (omega (arith, some))))

    moved : n * 2 ^ z * 2 ^ (e - z) ≡ n * 2 ^ e
    moved = let d : z + (e - z) ≡ e = omega arith in pow_join n z (e - z) ∙ ap (λ (x : ℕ). n * 2 ^ x) d

-- what the code works out first: the root of the number with these bits is that of m * 2 ^ 54 * 4 ^ g
pub record SquareOfBits (bits m g : ℕ) : Type 0 where
  pub root : sqrt_of (of_bits binary64 bits) ≡ rounded (m * 2 ^ 54 * 4 ^ g)
  pub least : 2 ^ 52 ≤ m
  pub most : m ≤ 2 ^ 54 - 2
  pub reach : g ≤ 1532
