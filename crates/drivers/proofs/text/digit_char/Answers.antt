-- `drivers::text::digit_char` meets its contract. Assumes nothing.
use mathlib.Core.Path.{refl}
use borrow.Author.Rules.{rules}
use borrow.Author.Tests.{lt-ltb, le-ltb}
use Rattle.drivers.specs.Text.{digit_char}
use Rattle.numbers.specs.laws.Pick.{hit, skip}
use Rattle.drivers.proofs.text.digit_char.Goals as goal

pub returns-then-d-lt10 : goal.returns-then-d-lt10
unfolding digit_char
returns-then-d-lt10 c = hit _ _ _ _ (lt-ltb c.args.d 10 (search rules)) refl

pub returns : goal.returns
unfolding digit_char
returns c = skip _ _ _ _ (le-ltb c.args.d 10 (search rules)) refl
