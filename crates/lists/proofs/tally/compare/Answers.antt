-- `lists::tally::compare` meets its contract.
use Rattle.lists.proofs.tally.Laws.{word_differs, all_agree, count_differs, no_words}
use Rattle.lists.proofs.tally.compare.Goals as goal

pub returns-in-Some : goal.returns-in-Some
returns-in-Some c = word_differs c.args.outs _ _ _ _ _ _ c.in-Ok.is c.min-both.ensures c.first_difference.ensures _ c.in-Some.is

pub returns-in-None : goal.returns-in-None
returns-in-None c = all_agree c.args.outs _ _ _ _ _ _ c.in-Ok.is c.min-both.ensures c.first_difference.ensures c.in-None.is c.if-n-outs.true

pub returns-in-None-2 : goal.returns-in-None-2
returns-in-None-2 c = count_differs c.args.outs _ _ _ _ _ _ c.in-Ok.is c.min-both.ensures c.first_difference.ensures c.in-None.is c.if-n-outs.false

pub returns-in-Err : goal.returns-in-Err
returns-in-Err c = no_words _ _ _ _ _ _ c.in-Err.is c.from.ensures
