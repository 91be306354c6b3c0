-- `numbers::sqrt::halved` meets its contract. Assumes nothing.
use native.Mathlib.Omega.{arith}
use Rattle.numbers.specs.laws.Rounded.{even_exponent, odd_exponent}
use borrow.Author.Rules.{rules}
use Rattle.numbers.proofs.sqrt.halved.Goals as goal

pub returns-then-e-eq0 : goal.returns-then-e-eq0
returns-then-e-eq0 c = (even_exponent _ _ (search rules) (search rules), search rules, search rules, search rules)

pub returns : goal.returns
returns c = (odd_exponent _ _ (search rules) (omega (arith, c.if-e-eq0.false)), search rules, search rules, search rules)
