-- `lists::pushes::Got::refusal` meets its contract.
use Rattle.std.proofs.Common.{refl, ◌∙◌, ap, rules, ℕ}
use Rattle.numbers.specs.laws.Pick.{hit, skip}
use Rattle.lists.specs.Pushes.{pushed}
use Rattle.lists.proofs.pushes.Got.refusal.Goals as goal

pub returns-then-any-clause-outcome : goal.returns-then-any-clause-outcome
returns-then-any-clause-outcome g c = hit _ _ _ _ c.if-any.true refl

pub returns-then-any-clause-words : goal.returns-then-any-clause-words
returns-then-any-clause-words g c =
    hit _ _ _ _ c.if-any.true (c.word.ensures ∙ ap (λ (n : ℕ). pushed n c.args.self.now.len c.args.self.now.bytes) c.number.ensures)

pub returns-in-Ok-clause-outcome : goal.returns-in-Ok-clause-outcome
returns-in-Ok-clause-outcome g c = skip _ _ _ _ c.if-any.false (search rules)

pub returns-in-Ok-clause-words : goal.returns-in-Ok-clause-words
returns-in-Ok-clause-words g c = skip _ _ _ _ c.if-any.false refl

pub returns-in-Err-clause-outcome : goal.returns-in-Err-clause-outcome
returns-in-Err-clause-outcome g c = skip _ _ _ _ c.if-any.false (search rules)

pub returns-in-Err-clause-words : goal.returns-in-Err-clause-words
returns-in-Err-clause-words g c = skip _ _ _ _ c.if-any.false refl
