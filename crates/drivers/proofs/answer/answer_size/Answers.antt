-- `drivers::answer::answer_size` meets its contract. Assumes nothing.
use mathlib.Core.Path.{refl}
use borrow.Author.Tests.{not-true, not-false}
use Rattle.numbers.specs.laws.Pick.{hit, skip}
use Rattle.std.proofs.Math.Path.{ap}
use Rattle.std.proofs.Math.Bool.{not}
use Rattle.drivers.proofs.answer.answer_size.Goals as goal

pub returns-then-not-found : goal.returns-then-not-found
returns-then-not-found c = skip _ _ _ _ (not-true _ (ap not c.if-not-found.true)) refl

pub returns : goal.returns
returns c = hit _ _ _ _ (not-false _ (ap not c.if-not-found.false)) refl
