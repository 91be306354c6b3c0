-- `drivers::record::next_field` meets its contract. Assumes nothing.
use mathlib.Core.Path.{◌≡◌, refl}
use mathlib.Core.List.{List}
use Prim.Native.Nat.{ℕ, ◌<◌, ◌≤◌, ◌+◌, ◌-◌}
use borrow.Author.Tests.{lt-ltb, le-ltb}
use lib.ListN.{length}
use native.Mathlib.Omega.{arith}
use Rattle.drivers.specs.laws.Record.{has_none, has_some}
use Rattle.drivers.specs.Record.{length_at, after}
use Rattle.numbers.specs.laws.Pick.{hit, skip}
use Rattle.drivers.proofs.record.next_field.Goals as goal

cut : (bytes : List ℕ) (at l : ℕ) → l ≡ length_at bytes at → length bytes - at < 3 + l → length bytes ≡ after bytes at
unfolding after
cut bytes at l e h = hit _ _ _ _ (lt-ltb _ _ (rw e at h)) refl

whole : (bytes : List ℕ) (at l : ℕ) → l ≡ length_at bytes at → 3 + l ≤ length bytes - at → at + (3 + l) ≡ after bytes at
unfolding after
whole bytes at l e h = skip _ _ _ _ (le-ltb _ _ (rw e at h)) (rw e)

pub returns-then-not-has_room : goal.returns-then-not-has_room
returns-then-not-has_room c = cut _ _ _ c.length_at-whole.ensures (has_none _ _ _ c.has_room.ensures c.if-not-has_room.true (omega arith))

pub overflow_add-result : goal.overflow_add-result
overflow_add-result c = record { fits = omega (arith, has_some _ _ _ c.has_room.ensures c.if-not-has_room.false) }

pub returns : goal.returns
returns c = whole _ _ _ c.length_at-whole.ensures (omega (arith, has_some _ _ _ c.has_room.ensures c.if-not-has_room.false))
