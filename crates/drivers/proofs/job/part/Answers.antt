-- `drivers::job::part` meets its contract. Assumes nothing.
use mathlib.Core.Path.{◌≡◌}
use Prim.Native.Nat.{ℕ, ◌≤◌, ◌<◌, ◌^◌}
use native.Mathlib.Nat.{pow-le-pow_right}
use native.Mathlib.Omega.{arith}
use Rattle.drivers.proofs.job.part.Goals as goal

-- a power of 65536 below the third
small : (k : ℕ) → k < 3 → 65536 ^ k < 18446744073709551616
small k l =
    let one : 1 ≤ 65536 = omega arith in
    let two : k ≤ 2 = omega arith in
    let q : 65536 ^ k ≤ 65536 ^ 2 = pow-le-pow_right one two in
    omega arith

some : (k p : ℕ) → p ≡ 65536 ^ k → 0 < p
some k p e =
    let one : 1 ≤ 65536 = omega arith in
    let none : 0 ≤ k = omega arith in
    let q : 65536 ^ 0 ≤ 65536 ^ k = pow-le-pow_right one none in
    omega (arith, e)

pub pow-requires : goal.pow-requires
pow-requires c = small c.args.k c.requires

pub nonzero_div-result : goal.nonzero_div-result
nonzero_div-result c = some c.args.k _ c.pow.ensures
