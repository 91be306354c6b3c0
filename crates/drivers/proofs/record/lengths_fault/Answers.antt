-- `drivers::record::lengths_fault` meets its contract. Assumes nothing.
use mathlib.Core.Path.{◌≡◌, refl, sym, ap, ◌∙◌}
use mathlib.Core.List.{List, [], ◌∷◌}
use Prim.Native.Nat.{ℕ}
use borrow.Author.Tests.{eq-eqb, ne_eqb}
use lib.Dec.{eqb}
use Rattle.numbers.specs.laws.Refusal.{failed, held, at_first, at_next}
use Rattle.numbers.specs.declared.refusal.Refusal.TheVariants.{Length}
use Rattle.numbers.specs.Refusal.{◌⨾◌, ask_at, At, Sound, Tests}
use Rattle.drivers.specs.Record.{index_at, length_at, lengths_fault}
use Rattle.drivers.specs.Rules.{index_of, rule_length}
use Rattle.drivers.proofs.record.lengths_fault.Goals as goal

module _ (bytes : List ℕ) (n at : ℕ) (rest all : List ℕ) (w : Tests) (is : all ≡ at ∷ rest) (left : lengths_fault n bytes all ≡ w) (l r : ℕ) (a : l ≡ length_at bytes at) (b : r ≡ rule_length (index_at bytes at) n) where
  -- the test of this field, then those of the rest
  turn : (ask_at at (eqb l r) Length ⨾ lengths_fault n bytes rest) ≡ w
  unfolding lengths_fault
  turn = rw (a, b) (sym (ap (lengths_fault n bytes) is) ∙ left)

  stops : (l ≡ r → ⊥) → At Length at ≡ w
  stops t = at_first _ (failed (ne_eqb l r t)) ∙ turn

  goes_on : l ≡ r → lengths_fault n bytes rest ≡ w
  goes_on t = at_next (held _ _ (eq-eqb l r t)) refl ∙ turn

ends : (bytes : List ℕ) (n : ℕ) (all : List ℕ) (w : Tests) → all ≡ [] → lengths_fault n bytes all ≡ w → Sound ≡ w
unfolding lengths_fault
ends bytes n all w is left = sym (ap (lengths_fault n bytes) is) ∙ left

pub returns-then-length_at-rule_length : goal.returns-then-length_at-rule_length
returns-then-length_at-rule_length c =
    let i = c.rule_index-i.ensures ∙ ap index_of c.byte_at.ensures in
    stops c.args.bytes.now c.args.n _ _ _ _ c.in-Some.ensures.steps c.loop-at.invariant _ _ c.length_at.ensures (c.rule_length.ensures ∙ ap (λ (z : ℕ). rule_length z c.args.n) i) c.if-length_at-rule_length.true

pub loop-at-preserved : goal.loop-at-preserved
loop-at-preserved c =
    let i = c.rule_index-i.ensures ∙ ap index_of c.byte_at.ensures in
    goes_on c.args.bytes.now c.args.n _ _ _ _ c.in-Some.ensures.steps c.loop-at.invariant _ _ c.length_at.ensures (c.rule_length.ensures ∙ ap (λ (z : ℕ). rule_length z c.args.n) i) c.if-length_at-rule_length.false

pub returns : goal.returns
returns c = ends c.args.bytes.now c.args.n _ _ c.in-None.ensures.steps.0 c.loop-at.invariant
