-- How many steps are left of a run. Assumes nothing.
use mathlib.Core.Path.{◌≡◌}
use Prim.Native.Nat.{ℕ, suc, ◌≤◌, ◌<◌, ◌+◌, ◌-◌}
use native.Mathlib.Omega.{arith}

-- so many steps are left
pub one_less : (most k : ℕ) → k < most → most - k ≡ suc (most - (k + 1))
one_less most k h = omega arith

pub none_left : (most k : ℕ) → most ≤ k → most - k ≡ 0
none_left most k h = omega arith

-- at the start all are
pub all_left : {X : Type 0} (f : ℕ → X) (most : ℕ) → f (most - 0) ≡ f most
all_left f most = let e : most - 0 ≡ most = omega arith in rw e
