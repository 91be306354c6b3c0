-- `numbers::sqrt::normalise` meets its contract. Assumes nothing.
use Rattle.numbers.proofs.sqrt.Laws.{up_start, up_more, up_few, up_pos}
use borrow.Author.Rules.{rules}
use Rattle.numbers.proofs.sqrt.normalise.Goals as goal

pub overflow_add-shift : goal.overflow_add-shift
overflow_add-shift c = let l = up_few _ _ _ c.requires.0 c.loop-m.invariant in search rules

pub loop-m-smaller : goal.loop-m-smaller
loop-m-smaller c = let l = up_pos _ _ _ c.requires.0 c.loop-m.invariant in search rules

pub returns : goal.returns
returns c = (c.loop-m.invariant.is, search rules, c.loop-m.invariant.small, up_few _ _ _ c.requires.0 c.loop-m.invariant)

pub loop-m-init : goal.loop-m-init
loop-m-init c = up_start _ (search rules)

pub loop-m-preserved : goal.loop-m-preserved
loop-m-preserved c = up_more _ _ _ c.loop-m.invariant (search rules)
