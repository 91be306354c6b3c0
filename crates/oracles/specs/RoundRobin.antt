-- The cursor (round_robin.rs) and document 01's legal cursors. Definitions only.
use Rattle.std.specs.Prelude.{Bool, false, ◌&&◌, eqb, ℤ, pos, negsuc, ◌+ℤ◌, ◌-ℤ◌, Ok, Err, Result}
use Rattle.numbers.specs.declared.refusal.Refusal.{Refusal}
use Rattle.std.specs.Int.Signed.{le_z, lt_z}
use Rattle.numbers.specs.Pick.{pick}
use Rattle.numbers.specs.Refusal.{◌⨾◌, unless, ask, Tests}
use Rattle.numbers.specs.declared.refusal.Refusal.TheVariants.{Band, Cursor}
use Rattle.oracles.specs.declared.round_robin.RoundRobin.{RoundRobin}

-- a band: 0 ≤ lo ≤ hi ≤ 1,024
abbrev pub is_band : ℤ → ℤ → Bool
is_band lo hi = le_z (pos 0) lo && le_z lo hi && le_z hi (pos 1024)

-- cur stands in its band, or just before it: lo − 1 ≤ cur ≤ hi − 1
abbrev pub is_at : RoundRobin → Bool
is_at c = lt_z c.cur c.hi && le_z c.lo (c.cur +ℤ pos 1)

-- whether two numbers are equal
abbrev pub eq_z : ℤ → ℤ → Bool
eq_z (pos a) (pos b) = eqb a b
eq_z (pos a) (negsuc b) = false
eq_z (negsuc a) (pos b) = false
eq_z (negsuc a) (negsuc b) = eqb a b

-- the cursor at row z
abbrev pub with_cur : RoundRobin → ℤ → RoundRobin
with_cur c z = record { cur = z; lo = c.lo; hi = c.hi }

-- one on, and hi turns into lo
unfoldable pub advanced : RoundRobin → RoundRobin
advanced c = with_cur c (pick (eq_z (c.cur +ℤ pos 1) c.hi) c.lo (c.cur +ℤ pos 1))

-- a fresh cursor stands just before its band
abbrev pub fresh : ℤ → ℤ → RoundRobin
fresh lo hi = record { cur = lo -ℤ pos 1; lo = lo; hi = hi }

-- `new_range`: refusal 3 unless lo and hi are a band
abbrev pub new_range_tests : ℤ → ℤ → Tests
new_range_tests lo hi = ask (is_band lo hi) Band

unfoldable pub new_range_answer : ℤ → ℤ → Result RoundRobin Refusal
new_range_answer lo hi = unless (new_range_tests lo hi) (λ why place. Err why) (Ok (fresh lo hi))

-- `advance`: refusal 3 also for an empty band, then 4
abbrev pub advance_tests : RoundRobin → Tests
advance_tests c = ask (is_band c.lo c.hi && lt_z c.lo c.hi) Band ⨾ ask (is_at c) Cursor

unfoldable pub advance_answer : RoundRobin → Result RoundRobin Refusal
advance_answer c = unless (advance_tests c) (λ why place. Err why) (Ok (advanced c))
