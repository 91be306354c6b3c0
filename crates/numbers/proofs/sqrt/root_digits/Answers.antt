-- `numbers::sqrt::root_digits` meets its contract. Assumes nothing.
use Rattle.numbers.proofs.sqrt.Laws.{digits_start, digit_one, digit_zero, digits_done}
use borrow.Author.Rules.{rules}
use Rattle.numbers.proofs.sqrt.root_digits.Goals as goal
use Rattle.numbers.proofs.sqrt.root_digits.Goals.{then-a-rest, else-a-rest}

pub loop-preserved : goal.loop-preserved
loop-preserved c =
    elim c.if-a-rest.branch [
      | then-a-rest w ↦ rw (w.a-is, w.rest-is) (digit_one _ _ _ _ _ c.loop.invariant (search rules) w.if-a-rest.true)
      | else-a-rest w ↦ rw (w.a-is, w.rest-is) (digit_zero _ _ _ _ _ c.loop.invariant (search rules) w.if-a-rest.false)
    ]

pub loop-init : goal.loop-init
loop-init c = digits_start _ (search rules)

pub returns : goal.returns
returns c = digits_done _ _ _ _ _ c.loop.invariant (search rules)
