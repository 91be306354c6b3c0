-- `drivers::job::has_room` meets its contract. Assumes nothing.
use mathlib.Core.Path.{refl}
use Prim.Native.Nat.{◌≤◌, ◌*◌}
use native.Mathlib.Nat.{mul-le-mul}
use native.Mathlib.Omega.{arith}
use Rattle.drivers.proofs.job.has_room.Goals as goal

pub overflow_mul-result : goal.overflow_mul-result
overflow_mul-result c =
    let h : c.args.job.rows * c.args.job.n ≤ 1024 * 32 = mul-le-mul c.requires.1 c.requires.0 in
    record { fits = omega arith }

pub overflow_mul-result-2 : goal.overflow_mul-result-2
overflow_mul-result-2 c =
    let h : c.args.job.n * c.args.job.n ≤ 32 * 32 = mul-le-mul c.requires.0 c.requires.0 in
    record { fits = omega arith }

pub returns : goal.returns
returns c = refl
