-- The whole part of a root: what `isqrt` finds, and what of it is left when the number is moved up. Assumes nothing.
use Rattle.std.specs.Prelude.{◌≡◌, refl, Bool, true, false, not, cond, ℕ, zero, suc, ◌+◌, ◌*◌, ◌/◌, ◌^◌, ◌≤◌, ◌<◌, T, leb}
use Rattle.std.proofs.Common.{sym, subst, mul-le-mul, mul-le-mul_right, lt_of_mul-lt-mul_right, le_of_mul-le-mul_right, lt_of_not-le, not-le_of_lt, le_antisymm, le_trans, lt_of_lt_of_le, lt_of_le_of_lt, le_of_eq, le_of_suc-le-suc, div-mul-le_self, mul-pos, pow-suc, add-one-le, arith, leb→le, pow_pos}
use Rattle.std.proofs.Math.Nat.{lt-div-mul-add}
use Rattle.std.proofs.Math.Dec.{nleb→lt}
use Rattle.std.specs.Float.Ieee.{size}
use Rattle.std.specs.Float.Ieee.Digits.{size-lt}
use Rattle.numbers.specs.Sqrt.{isqrt_to, isqrt}

-- a is the whole part of √N
pub record IsRoot (N a : ℕ) : Type 0 where
  pub below : a * a ≤ N
  pub above : N < (a + 1) * (a + 1)

-- ---- squares

pub sq_lt_back : (a b : ℕ) → a * a < b * b → a < b
sq_lt_back a b h = lt_of_not-le (λ (g : b ≤ a). not-le_of_lt h (mul-le-mul g g))

root_le : {N a b : ℕ} → IsRoot N a → IsRoot N b → a ≤ b
root_le {N} {a} {b} x y = le_of_suc-le-suc (subst (λ (z : ℕ). a < z) (omega arith) (sq_lt_back a (b + 1) (lt_of_le_of_lt x.below y.above)))

pub root_unique : {N a b : ℕ} → IsRoot N a → IsRoot N b → a ≡ b
root_unique x y = le_antisymm (root_le x y) (root_le y x)

-- ---- the digit loop of the definition finds it

quarter : (N r a : ℕ) → r * r ≤ N / 4 → N / 4 < (r + 1) * (r + 1) → a ≡ 2 * r → (a * a ≤ N) × (N < (a + 2) * (a + 2))
quarter N r a h k e = rw e (omega arith)

next_digit : (N a : ℕ) → (a * a ≤ N) × (N < (a + 2) * (a + 2)) → IsRoot N (cond (leb ((a + 1) * (a + 1)) N) (a + 1) a)
next_digit N a h = go (leb ((a + 1) * (a + 1)) N) (leb→le ((a + 1) * (a + 1)) N) (nleb→lt ((a + 1) * (a + 1)) N)
  where
    go : (t : Bool) → (T t → (a + 1) * (a + 1) ≤ N) → (T (not t) → N < (a + 1) * (a + 1)) → IsRoot N (cond t (a + 1) a)
    go true u d = let x = u tt in record { below = x; above = omega arith }
    go false u d = let x = d tt in record { below = h.0; above = x }

less_than_one : (N : ℕ) → N < 1 → IsRoot N 0
less_than_one N h = record { below = omega arith; above = omega arith }

fewer : (k N : ℕ) → N < 4 ^ suc k → N / 4 < 4 ^ k
fewer k N h = let p = pow-suc 4 k in omega arith

isqrt_to_is : (k N : ℕ) → N < 4 ^ k → IsRoot N (isqrt_to k N)
unfolding isqrt_to
isqrt_to_is zero N h = less_than_one N h
isqrt_to_is (suc k) N h =
    let i = isqrt_to_is k (N / 4) (fewer k N h) in
    next_digit N (2 * isqrt_to k (N / 4)) (quarter N (isqrt_to k (N / 4)) (2 * isqrt_to k (N / 4)) i.below i.above refl)

-- 4 ^ k as a square
pub four_pow : (k : ℕ) → 4 ^ k ≡ 2 ^ k * 2 ^ k
four_pow zero = refl
four_pow (suc k) = let p = pow-suc 4 k in let q = pow-suc 2 k in let r = four_pow k in rw q (omega arith)

pub isqrt_is : (N : ℕ) → IsRoot N (isqrt N)
unfolding isqrt
isqrt_is N = isqrt_to_is (size N) N (lt_of_lt_of_le (size-lt N) (grow (size N)))
  where
    grow : (k : ℕ) → 2 ^ k ≤ 4 ^ k
    grow k = rw four_pow (let p : 1 ≤ 2 ^ k = pow_pos k in le_trans (le_of_eq (omega arith)) (mul-le-mul_right (2 ^ k) p))

-- ---- √(M * 4 ^ g) without its last g digits

pub shifted_root : (M g w : ℕ) → IsRoot (M * 4 ^ g) w → IsRoot M (w / 2 ^ g)
shifted_root M g w r =
    let p = 2 ^ g in
    let c = w / p in
    let P : 0 < p = pow_pos g in
    let e : 4 ^ g ≡ p * p = four_pow g in
    let l : c * p ≤ w = div-mul-le_self w p in
    let u : w + 1 ≤ (c + 1) * p = le_trans (add-one-le (lt-div-mul-add P)) (le_of_eq (omega arith)) in
    record {
      below = le_of_mul-le-mul_right (le_trans (le_of_eq (regroup c p)) (le_trans (mul-le-mul l l) (subst (λ (x : ℕ). w * w ≤ M * x) e r.below))) (mul-pos P P);
      above = lt_of_mul-lt-mul_right (p * p) (lt_of_lt_of_le (subst (λ (x : ℕ). M * x < (w + 1) * (w + 1)) e r.above) (le_trans (mul-le-mul u u) (le_of_eq (sym (regroup (c + 1) p)))));
    }
  where
    regroup : (a b : ℕ) → a * a * (b * b) ≡ a * b * (a * b)
    regroup a b = omega arith
