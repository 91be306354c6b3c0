-- `ponduvizh::ellipsoids::put_update` meets its contract. Assumes nothing.
use Rattle.ponduvizh.proofs.ellipsoids.Laws.{numbers_are}
use borrow.Author.Rules.{rules}
use Rattle.ponduvizh.proofs.ellipsoids.put_update.Goals as goal

pub returns : goal.returns
returns c = search (rules, numbers_are)
