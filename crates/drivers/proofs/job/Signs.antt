-- Signed numbers of a job, 16 bits each, as the machine keeps them in 32. Assumes nothing.
use mathlib.Core.Path.{◌≡◌, refl}
use Prim.Native.Nat.{ℕ, zero, suc, ◌≤◌, ◌<◌}
use native.Mathlib.Omega.{arith}
use mathlib.Core.Bool.{Bool, true, false}
use lib.Dec.{ltb}
use lib.IntN.{pos, ◌-ℤ◌}
use mir.Syntax.{w32}
use mir.Val.{SFits, to_z}
use mir.Facts.{to_z_pos}
use Rattle.drivers.specs.Job.{part_of, signed}
use Rattle.numbers.specs.laws.Pick.{by_test}

-- a number of 16 bits, and what is left of it
pub half_fits : (h : ℕ) → h < 65536 → SFits w32 (pos h)
half_fits h l = record { sfits = omega arith }

pub less_fits : (h k : ℕ) → h < 65536 → k ≤ 65536 → SFits w32 (pos h -ℤ pos k)
less_fits h zero l b = record { sfits = omega arith }
less_fits h (suc k) l b = go (ltb h (suc k)) refl
  where
    go : (t : Bool) → ltb h (suc k) ≡ t → SFits w32 (pos h -ℤ pos (suc k))
    go true e = rw e (record { sfits = omega arith })
    go false e = rw e (record { sfits = omega arith })

pub signed_fits : (h : ℕ) → h < 65536 → SFits w32 (signed h)
unfolding signed
signed_fits h l = by_test (SFits w32) (ltb h 32768) (pos h) (pos h -ℤ pos 65536) (λ _. half_fits h l) (λ _. less_fits h 65536 l (omega arith))

-- what the machine reads
pub reads_half : (h : ℕ) → h < 65536 → to_z w32 h ≡ pos h
reads_half h l = to_z_pos w32 (omega arith)

pub part_small : (w k : ℕ) → part_of w k < 65536
part_small w k = omega arith
