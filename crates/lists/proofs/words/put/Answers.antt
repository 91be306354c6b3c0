-- `lists::words::put` meets its contract.
use Rattle.std.proofs.Common.{rules}
use Rattle.lists.proofs.words.Laws.{put_none}
use Rattle.lists.proofs.words.put.Goals as goal

pub returns-then-bytes-k : goal.returns-then-bytes-k
returns-then-bytes-k c = put_none _ _ _ (search rules)
