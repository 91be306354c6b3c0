-- The square root of IEEE 754: the value of binary64 that is nearest to the true root, by comparing squares of whole numbers. Definitions only.
-- Whole numbers count units of 2 ^ -1074, the least value above zero.
use Rattle.std.specs.Prelude.{◌≡◌, ◌⊎◌, Bool, true, false, cond, T, leb, Float}
use Prim.Native.Nat.{ℕ, zero, suc, ◌+◌, ◌-◌, ◌*◌, ◌/◌, ◌^◌, ◌<◌, compare}
use Rattle.std.specs.Float.{nan, inf, fin, binary64}
use Rattle.std.specs.Float.Ieee.{prec, low, size, nearest, units, fits}
use Rattle.std.specs.Float.Ieee.Positive.{num, den}
use Rattle.std.specs.Float.Ieee.Scale.{finite}

-- The whole part of √N, for N below 4 ^ k: the root of the number without its last two binary digits, and one digit more.
unfoldable pub isqrt_to : ℕ → ℕ → ℕ
isqrt_to zero N = 0
isqrt_to (suc k) N =
    let a = 2 * isqrt_to k (N / 4) in
    cond (leb ((a + 1) * (a + 1)) N) (a + 1) a

-- The whole part of √N: N has at most as many digits in base 4 as in base 2.
unfoldable pub isqrt : ℕ → ℕ
unfolding isqrt_to
isqrt N = isqrt_to (size N) N

-- How many units a finite x has in size; nothing is dropped for an x that binary64 holds: `units_exact` in Units.
abbrev pub units_of : Float → ℕ
units_of x = num x * 2 ^ low binary64 / den x

-- The square of the root in units squared, for an x of n units: x = n / 2 ^ 1074 = (√N / 2 ^ 1074) ^ 2.
abbrev pub square_of : ℕ → ℕ
square_of n = n * 2 ^ low binary64

-- Of the whole part of √N all but 53 leading digits are dropped. The middle between what is kept and the next number up is
-- (2 * kept + 1) * 2 ^ dropped halves of a unit.
abbrev pub dropped : ℕ → ℕ
dropped N = size (isqrt N) - prec binary64

abbrev pub kept : ℕ → ℕ
kept N = isqrt N / 2 ^ dropped N

abbrev pub middle : ℕ → ℕ
middle N = (2 * kept N + 1) * 2 ^ dropped N

-- √N units rounded to binary64: 2 * √N lies below, at or above the middle as the squares do. (A tie would go to the even number; none occurs, since every other number lies strictly farther: NearestRoot below.)
unfoldable pub rounded : ℕ → Float
rounded N = units binary64 false (nearest (kept N) (compare (4 * N) (middle N * middle N))) (dropped N)

-- NaN and numbers below zero give NaN; each zero and plus infinity give themselves; any other x the rounded root.
unfoldable pub sqrt_of : Float → Float
sqrt_of nan = nan
sqrt_of (inf false) = inf false
sqrt_of (inf true) = nan
sqrt_of (fin s zero e) = fin s zero e
sqrt_of (fin true (suc m) e) = nan
sqrt_of (fin false (suc m) e) = rounded (square_of (units_of (fin false (suc m) e)))

-- ---- IEEE 754's root: what the contract of `sqrt` says of a positive finite x beside the equation with `sqrt_of`

-- a float's sign
abbrev pub negative : Float → Bool
negative nan = false
negative (inf s) = s
negative (fin s m e) = s

-- r lies nearer to √N than u does, or than -u where s is true; all in units. Between two numbers r and u the middle is (r + u) / 2, so r is
-- nearer where 2 * √N lies on its side of r + u, which the squares say. -u lies farther than r does where
-- r - √N < √N + u; `r - u` is 0 where r ≤ u, and there 0 < 4 * N says no less: -u lies farther unless r and u are both 0, and the root of N above 0 is not.
abbrev pub Nearer : ℕ → ℕ → Bool → ℕ → Type 0
Nearer N r false u = ((r < u) × (4 * N < (r + u) * (r + u))) ⊎ ((u < r) × ((r + u) * (r + u) < 4 * N))
Nearer N r true u = (r - u) * (r - u) < 4 * N

-- r is the f64 nearest to √x: a finite f64, not below zero, and strictly nearer than every other finite f64, so that no tie occurs. (An infinity lies infinitely far from the root.)
pub record NearestRoot (x r : Float) : Type 0 where
  pub is_f64 : T (fits binary64 r)
  pub is_finite : T (finite r)
  pub not_below_zero : negative r ≡ false
  pub nearer : (y : Float) → T (fits binary64 y) → T (finite y) → (y ≡ r → ⊥) → Nearer (square_of (units_of x)) (units_of r) (negative y) (units_of y)
