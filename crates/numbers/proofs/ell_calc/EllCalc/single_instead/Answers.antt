-- `numbers::ell_calc::EllCalc::single_instead` meets its contract. The two ways to the second half of `||` meet, and each is taken apart. Assumes nothing.
use Rattle.numbers.proofs.ell_calc.EllCalc.single_instead.Goals as goal
use Rattle.numbers.proofs.ell_calc.EllCalc.single_instead.Goals.{then-beta1, else-beta1}

pub returns-then-tsq-beta1 : goal.returns-then-tsq-beta1
returns-then-tsq-beta1 c =
    elim c.if-beta1.branch [
      | then-beta1 w ↦ rw (w.if-beta1.true, ← w.value-is, c.if-tsq-beta1.true)
      | else-beta1 w ↦ cc
    ]

pub returns-else-tsq-beta1 : goal.returns-else-tsq-beta1
returns-else-tsq-beta1 c =
    elim c.if-beta1.branch [
      | then-beta1 w ↦ rw (w.if-beta1.true, ← w.value-is, c.if-tsq-beta1.false)
      | else-beta1 w ↦ rw w.if-beta1.false
    ]
