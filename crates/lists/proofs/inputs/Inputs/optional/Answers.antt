-- `lists::inputs::Inputs::optional` meets its contract.
use Rattle.std.proofs.Common.{refl, sym, ap, ◌∙◌, Some, eq-eqb, ne_eqb, Float}
use Rattle.numbers.specs.laws.Pick.{hit, skip}
use Rattle.lists.specs.Inputs.{optional_at}
use Rattle.lists.proofs.inputs.Inputs.optional.Goals as goal

pub returns-then-word : goal.returns-then-word
unfolding optional_at
returns-then-word c = hit _ _ _ _ (eq-eqb _ _ (sym c.word.ensures ∙ c.if-word.true)) refl

pub returns : goal.returns
unfolding optional_at
returns c = skip _ _ _ _ (ne_eqb _ _ (λ e. c.if-word.false (c.word.ensures ∙ e))) (ap (λ (x : Float). Some x) c.float.ensures)
