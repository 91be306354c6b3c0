-- `drivers::text::has_room` meets its contract. Assumes nothing.
use Prim.Native.Nat.{ℕ, ◌+◌, ◌-◌, ◌≤◌, ◌<◌}
use mathlib.Core.Path.{◌≡◌, refl, sym, ◌∙◌}
use mathlib.Core.Bool.{Bool, true, false}
use native.Mathlib.Omega.{arith}
use borrow.Author.Tests.{le-leb, lt-leb, leb-true, leb-false}
use lib.Dec.{leb}
use Rattle.drivers.proofs.text.has_room.Goals as goal

none_left : (bytes at size : ℕ) → bytes < at → false ≡ leb (at + size) bytes
none_left bytes at size h = sym (lt-leb (at + size) bytes (omega arith))

room_left : (bytes at size : ℕ) → at ≤ bytes → leb size (bytes - at) ≡ leb (at + size) bytes
room_left bytes at size h = go (leb size (bytes - at)) refl
  where
    go : (t : Bool) → leb size (bytes - at) ≡ t → leb size (bytes - at) ≡ leb (at + size) bytes
    go true e = e ∙ sym (le-leb (at + size) bytes (omega (arith, leb-true size (bytes - at) e)))
    go false e = e ∙ sym (lt-leb (at + size) bytes (omega (arith, leb-false size (bytes - at) e)))

pub returns-then-bytes-at : goal.returns-then-bytes-at
returns-then-bytes-at c = none_left _ _ _ c.if-bytes-at.true

pub returns : goal.returns
returns c = room_left _ _ _ c.if-bytes-at.false
