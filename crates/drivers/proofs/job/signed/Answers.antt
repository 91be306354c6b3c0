-- `drivers::job::signed` meets its contract. Assumes nothing.
use mathlib.Core.Path.{◌≡◌, ap, ◌∙◌}
use Prim.Native.Nat.{ℕ, suc, ◌<◌, ◌≤◌, ◌-◌}
use native.Mathlib.Omega.{arith}
use lib.IntN.{ℤ, pos, negsuc, ◌-ℤ◌}
use lib.Dec.{ltb}
use borrow.Author.Tests.{lt-ltb, ltb-true, ltb-false}
use mir.Syntax.{w16, w32}
use mir.Val.{Fits, to_z, of_z}
use mir.Facts.{to_z_pos, to_z-neg, to_z-of_z, of_z-to_z}
use Rattle.drivers.specs.Job.{signed}
use Rattle.drivers.proofs.job.Signs.{signed_fits}
use Rattle.drivers.proofs.job.signed.Goals as goal
use Rattle.numbers.specs.laws.Pick.{by_test}

less : (h : ℕ) → h < 65536 → negsuc (65535 - h) ≡ pos h -ℤ pos 65536
less h l = rw (lt-ltb h 65536 l) (ap negsuc (omega arith))

-- what the machine reads of 16 bits
high : (h : ℕ) → h < 65536 → 32768 ≤ h → to_z w16 h ≡ pos h -ℤ pos 65536
high h l b =
    let e : to_z w16 h ≡ to_z w16 (65536 - suc (65535 - h)) = ap (to_z w16) (omega arith) in
    e ∙ to_z-neg w16 (65535 - h) (omega arith) ∙ less h l

reads : (h : ℕ) → h < 65536 → to_z w16 h ≡ signed h
unfolding signed
reads h l = by_test (λ z. to_z w16 h ≡ z) (ltb h 32768) (pos h) (pos h -ℤ pos 65536) (λ t. to_z_pos w16 (omega (arith, ltb-true h 32768 t))) (λ t. high h l (ltb-false h 32768 t))

is : (h : ℕ) (z : ℤ) → h < 65536 → z ≡ to_z w16 h → to_z w32 (of_z w32 (to_z w16 (of_z w16 z))) ≡ signed h
is h z l e =
    let f : Fits w16 h = record { fits = omega arith } in
    let d : to_z w16 (of_z w16 z) ≡ signed h = ap (λ (y : ℤ). to_z w16 (of_z w16 y)) e ∙ ap (to_z w16) (of_z-to_z f) ∙ reads h l in
    ap (λ (y : ℤ). to_z w32 (of_z w32 y)) d ∙ to_z-of_z (signed_fits h l)

pub returns : goal.returns
returns c = is _ _ c.requires c.cast_signed.ensures
