-- `numbers::refusal::ask` meets its contract. Assumes nothing.
use Rattle.std.proofs.Common.{refl}
use Rattle.numbers.specs.laws.Pick.{hit, skip}
use Rattle.numbers.proofs.refusal.ask.Goals as goal

pub returns-then-test-clause-value : goal.returns-then-test-clause-value
returns-then-test-clause-value c = hit _ _ _ _ c.if-test.true refl

pub returns-else-test-clause-value : goal.returns-else-test-clause-value
returns-else-test-clause-value c = skip _ _ _ _ c.if-test.false refl
