-- `drivers::record::missing_fault` meets its contract. Assumes nothing.
use Rattle.numbers.specs.Refusal.{At, Sound}
use mathlib.Core.Path.{◌≡◌, sym, ap, ◌∙◌}
use mathlib.Core.Bool.{Bool, true, false, not, ◌&&◌}
use mathlib.Core.List.{List}
use mathlib.Core.Logic.{⊎_elim}
use Prim.Native.Nat.{ℕ, ◌<◌, ◌≤◌, ◌+◌}
use native.Mathlib.Nat.{eq-or-lt_of_le}
use native.Mathlib.Omega.{arith}
use lib.Dec.{eqb}
use Rattle.numbers.specs.laws.Refusal.{failed, held}
use Rattle.numbers.specs.declared.refusal.Refusal.TheVariants.{MissingTag}
use Rattle.numbers.specs.laws.Pick.{some_holds, none_some}
use Rattle.drivers.specs.Record.{place, is_missing, missing_fault}
use Rattle.drivers.specs.declared.rules.Form.{Form}
use Rattle.drivers.specs.declared.rules.Rule.{Rule}
use Rattle.drivers.specs.Rules.{tags, has_tag, is_maybe, rule_at}
use borrow.Author.Rules.{rules}
use Rattle.drivers.proofs.record.missing_fault.Goals as goal

module _ (end : ℕ) (form : Form) (places : List ℕ) (i : ℕ) where
  module _ (r : Rule) (e : r ≡ rule_at i) (t : Bool) (d : t ≡ has_tag form r) (o : Bool) (m : o ≡ is_maybe r.often) where
    test_is : (t && not o && eqb (place places i) 0) ≡ is_missing form places i
    test_is = rw (d, m, e)

    found : i < tags → (t && not o && eqb (place places i) 0) ≡ true → At MissingTag end ≡ missing_fault end form places
    unfolding missing_fault
    found b h = failed (ap not (some_holds (is_missing form places) 0 tags i (omega arith) (omega arith) (sym test_is ∙ h)))

    one_more : ((j : ℕ) → j < i → is_missing form places j ≡ false) → (t && not o && eqb (place places i) 0) ≡ false
        → (j : ℕ) → j < i + 1 → is_missing form places j ≡ false
    one_more h k j l = ⊎_elim (λ (q : j ≡ i). rw q (sym test_is ∙ k)) (λ (k : j < i). h j k) (eq-or-lt_of_le (omega arith))

  none : ((j : ℕ) → j < i → is_missing form places j ≡ false) → tags ≤ i → Sound ≡ missing_fault end form places
  unfolding missing_fault
  none h l = held _ _ (ap not (none_some (is_missing form places) 0 tags (λ j b m. h j (omega arith))))

pub returns-then-is_of-is_optional : goal.returns-then-is_of-is_optional
returns-then-is_of-is_optional c =
    found _ _ _ _ _ c.rule_at-rule.ensures _ c.is_of.ensures _ c.is_optional.ensures (search rules) c.if-is_of-is_optional.true

pub loop-i-preserved : goal.loop-i-preserved
loop-i-preserved c =
    one_more c.args.end c.args.form c.args.places.now c.loop-i.i _ c.rule_at-rule.ensures _ c.is_of.ensures _ c.is_optional.ensures c.loop-i.invariant c.if-is_of-is_optional.false

pub loop-i-init : goal.loop-i-init
loop-i-init c = λ j b. absurd (omega arith)

pub returns : goal.returns
returns c = none _ _ _ _ c.loop-i.invariant (search rules)
