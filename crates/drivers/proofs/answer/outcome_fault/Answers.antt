-- `drivers::answer::outcome_fault` meets its contract. Assumes nothing.
use Rattle.numbers.specs.Refusal.{At, Sound}
use mathlib.Core.Path.{◌≡◌, ap, ◌∙◌}
use mathlib.Core.List.{List}
use Prim.Native.Nat.{ℕ}
use borrow.Author.Tests.{eq-eqb, ne_eqb}
use Rattle.numbers.specs.declared.refusal.Refusal.TheVariants.{Outcome}
use Rattle.numbers.specs.laws.Refusal.{failed, held}
use Rattle.drivers.specs.Rules.{outcome_place}
use Rattle.drivers.specs.Record.{byte_at, start_of, place}
use Rattle.drivers.specs.Answer.{outcome_byte, has_point, outcome_fault}
use Rattle.drivers.proofs.answer.outcome_fault.Goals as goal

-- the byte b is read, and w is what it should be
module _ (bytes places : List ℕ) (b w : ℕ) (e : b ≡ byte_at bytes (place places outcome_place)) (d : w ≡ outcome_byte (has_point places)) where
  wrong : (b ≡ w → ⊥) → (s : ℕ) → s ≡ start_of (place places outcome_place) → At Outcome s ≡ outcome_fault bytes places
  unfolding outcome_fault
  wrong h s q = ap (At Outcome) q ∙ rw (← e, ← d) (failed (ne_eqb b w h))

  sound : b ≡ w → Sound ≡ outcome_fault bytes places
  unfolding outcome_fault
  sound h = rw (← e, ← d) (held Outcome _ (eq-eqb b w h))

pub returns-then-byte_at-outcome_byte : goal.returns-then-byte_at-outcome_byte
returns-then-byte_at-outcome_byte c = wrong _ _ _ _ c.byte_at.ensures c.outcome_byte.ensures c.if-byte_at-outcome_byte.true _ c.start_of.ensures

pub returns : goal.returns
returns c = sound _ _ _ _ c.byte_at.ensures c.outcome_byte.ensures c.if-byte_at-outcome_byte.false
