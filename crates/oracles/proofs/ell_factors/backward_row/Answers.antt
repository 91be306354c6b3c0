-- `oracles::ell_factors::backward_row` meets its contract. Assumes nothing.
use borrow.Author.Rules.{rules}
use Rattle.oracles.specs.laws.Matrix.{from_start, from_turn}
use Rattle.oracles.proofs.ell_factors.backward_row.Goals as goal

pub loop-j-init : goal.loop-j-init
loop-j-init c = from_start _ _ _ _ _ (search rules)

pub loop-j-preserved : goal.loop-j-preserved
loop-j-preserved c = let l = c.loop-j in from_turn _ _ _ _ _ l.s l.j _ l.invariant (search rules) (rw c.at.ensures)
