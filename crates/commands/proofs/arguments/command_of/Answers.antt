-- `commands::arguments::command_of` meets its contract.
use Rattle.std.proofs.Common.{◌∙◌, sym, refl, rules}
use Rattle.numbers.specs.laws.Pick.{hit, skip}
use Rattle.commands.specs.Arguments.{command_of}
use Rattle.commands.proofs.arguments.command_of.Goals as goal

pub returns-then-is_answer : goal.returns-then-is_answer
unfolding command_of
returns-then-is_answer c = hit _ _ _ _ (sym c.asks-is_answer.ensures ∙ c.if-is_answer.true) refl

pub returns-then-is_belongs : goal.returns-then-is_belongs
unfolding command_of
returns-then-is_belongs c =
    skip _ _ _ _ (sym c.asks-is_answer.ensures ∙ c.if-is_answer.false)
    (hit _ _ _ _ (sym c.asks-is_belongs.ensures ∙ c.if-is_belongs.true) refl)

pub returns-then-is_file : goal.returns-then-is_file
unfolding command_of
returns-then-is_file c =
    skip _ _ _ _ (sym c.asks-is_answer.ensures ∙ c.if-is_answer.false)
    (skip _ _ _ _ (sym c.asks-is_belongs.ensures ∙ c.if-is_belongs.false)
    (hit _ _ _ _ (sym c.asks-is_file.ensures ∙ c.if-is_file.true) refl))

pub returns-then-is_limits : goal.returns-then-is_limits
unfolding command_of
returns-then-is_limits c =
    skip _ _ _ _ (sym c.asks-is_answer.ensures ∙ c.if-is_answer.false)
    (skip _ _ _ _ (sym c.asks-is_belongs.ensures ∙ c.if-is_belongs.false)
    (skip _ _ _ _ (sym c.asks-is_file.ensures ∙ c.if-is_file.false)
    (hit _ _ _ _ (sym c.asks-is_limits.ensures ∙ c.if-is_limits.true) (search rules))))

pub returns-else-is_limits : goal.returns-else-is_limits
unfolding command_of
returns-else-is_limits c =
    skip _ _ _ _ (sym c.asks-is_answer.ensures ∙ c.if-is_answer.false)
    (skip _ _ _ _ (sym c.asks-is_belongs.ensures ∙ c.if-is_belongs.false)
    (skip _ _ _ _ (sym c.asks-is_file.ensures ∙ c.if-is_file.false)
    (skip _ _ _ _ (sym c.asks-is_limits.ensures ∙ c.if-is_limits.false) refl)))
