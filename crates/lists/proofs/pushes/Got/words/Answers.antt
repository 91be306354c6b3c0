-- `lists::pushes::Got::words` meets its contract.
use Rattle.lists.proofs.pushes.Laws.{words_turn, words_done}
use Rattle.lists.proofs.pushes.Got.words.Goals as goal

pub loop-w-preserved : goal.loop-w-preserved
loop-w-preserved c = words_turn _ _ _ _ _ c.loop-w.invariant _ _ c.loop-w-test.true c.word.ensures

pub returns : goal.returns
returns c = words_done _ _ _ _ _ c.loop-w.invariant c.loop-w-test.false
