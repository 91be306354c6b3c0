-- `lists::words::word` meets its contract.
use Rattle.std.proofs.Common.{rules}
use Rattle.lists.proofs.words.Laws.{word_none, word_there}
use Rattle.lists.proofs.words.word.Goals as goal

pub returns-then-bytes-k : goal.returns-then-bytes-k
returns-then-bytes-k c = word_none c.args.bytes.now c.args.k (search rules)

pub returns : goal.returns
returns c = word_there _ _ _ c.word_at.ensures
