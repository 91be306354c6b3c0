-- `drivers::fields::short_of` meets its contract. Assumes nothing.
use Prim.Native.Nat.{◌-◌}
use mathlib.Core.Path.{◌≡◌, sym, ap, ◌∙◌}
use mathlib.Core.Bool.{Bool, true, false}
use borrow.Author.Rules.{rules}
use lib.IntN.{ℤ, pos, nat_abs}
use lib.Signed.{lt_z}
use mir.Syntax.{w32}
use mir.Val.{SFits, to_z, of_z}
use mir.Facts.{to_z-of_z}
use Rattle.numbers.specs.laws.Pick.{hit, skip}
use Rattle.drivers.proofs.fields.short_of.Goals as goal

-- the number that the machine reads
module _ (z : ℤ) (f : SFits w32 z) where
  test : (t : Bool) → lt_z (to_z w32 (of_z w32 z)) (pos 0) ≡ t → lt_z z (pos 0) ≡ t
  test t e = ap (λ (y : ℤ). lt_z y (pos 0)) (sym (to_z-of_z f)) ∙ e

  size : nat_abs (to_z w32 (of_z w32 z)) ≡ nat_abs z
  size = ap nat_abs (to_z-of_z f)

pub returns-then-z-lt0 : goal.returns-then-z-lt0
returns-then-z-lt0 c =
    let z = c.args.z in
    hit _ _ _ _ (test z (search rules) true c.if-z-lt0.true) (c.saturating_sub.ensures ∙ ap (λ n. 65536 - n) (c.unsigned_abs-size.ensures.value ∙ size z (search rules)))

pub returns : goal.returns
returns c =
    let z = c.args.z in
    skip _ _ _ _ (test z (search rules) false c.if-z-lt0.false) (c.unsigned_abs-size.ensures.value ∙ size z (search rules))
