-- `drivers::record::size_fault` meets its contract. Assumes nothing.
use mathlib.Core.Path.{◌≡◌, refl}
use mathlib.Core.Bool.{true, false, not, ◌&&◌}
use mathlib.Core.List.{List}
use Prim.Native.Nat.{ℕ}
use borrow.Author.Tests.{eq-eqb, ne_eqb, not-true, not-false}
use lib.Dec.{leb, eqb}
use Rattle.numbers.specs.Refusal.{ask_at, At, Sound}
use Rattle.numbers.specs.laws.Refusal.{stops, passes}
use Rattle.numbers.specs.declared.refusal.Refusal.TheVariants.{Dimension, Length}
use Rattle.numbers.specs.laws.Pick.{hit, skip, is_hit, is_skip}
use Rattle.drivers.specs.Record.{length_at, start_of, half_at}
use Rattle.drivers.specs.Record.{size_fault}
use Rattle.drivers.specs.Rules.{rule_length}
use Rattle.std.proofs.Math.Path.{ap}
use Rattle.drivers.proofs.record.size_fault.Goals as goal

module _ (bytes : List ℕ) (rule least p q l r : ℕ) (s : q ≡ start_of p) (a : l ≡ length_at bytes q) (b : r ≡ rule_length rule 0) where
  too_long : (l ≡ r → ⊥) → At Length q ≡ size_fault rule least bytes p
  unfolding size_fault
  too_long h =
      let t : eqb (length_at bytes (start_of p)) (rule_length rule 0) ≡ false = rw (← s, ← a, ← b) (ne_eqb l r h) in
      let f : ask_at (start_of p) (eqb (length_at bytes (start_of p)) (rule_length rule 0)) Length ≡ At Length (start_of p) = is_skip _ Sound (At Length (start_of p)) t in
      rw (f, s) (stops (At Length (start_of p)) _ refl)

  module _ (h : l ≡ r) (n : ℕ) (d : n ≡ half_at bytes p) where
    long : ask_at (start_of p) (eqb (length_at bytes (start_of p)) (rule_length rule 0)) Length ≡ Sound
    long = is_hit _ Sound (At Length (start_of p)) (rw (← s, ← a, ← b) (eq-eqb l r h))

    outside : not (leb least n && leb n 32) ≡ true → At Dimension q ≡ size_fault rule least bytes p
    unfolding size_fault
    outside k = rw (long, ← d, s) (passes Sound _ _ refl (skip _ Sound (At Dimension (start_of p)) _ (not-true _ k) refl))

    inside : not (leb least n && leb n 32) ≡ false → Sound ≡ size_fault rule least bytes p
    unfolding size_fault
    inside k = rw (long, ← d) (passes Sound _ _ refl (hit _ Sound (At Dimension (start_of p)) _ (not-false _ k) refl))

pub returns-then-length_at-rule_length : goal.returns-then-length_at-rule_length
returns-then-length_at-rule_length c =
    too_long _ _ _ _ _ _ _ c.start_of-place.ensures c.length_at.ensures c.rule_length.ensures c.if-length_at-rule_length.true

pub returns-then-not-least-size : goal.returns-then-not-least-size
returns-then-not-least-size c =
    outside _ _ _ _ _ _ _ c.start_of-place.ensures c.length_at.ensures c.rule_length.ensures c.if-length_at-rule_length.false _ c.half_at-size.ensures (ap not c.if-not-least-size.true)

pub returns : goal.returns
returns c =
    inside _ _ _ _ _ _ _ c.start_of-place.ensures c.length_at.ensures c.rule_length.ensures c.if-length_at-rule_length.false _ c.half_at-size.ensures (ap not c.if-not-least-size.false)
