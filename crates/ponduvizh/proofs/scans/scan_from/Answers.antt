-- `ponduvizh::scans::scan_from` meets its contract. Assumes nothing.
use Rattle.ponduvizh.proofs.scans.Laws.{ended_law}
use borrow.Author.Rules.{rules}
use Rattle.ponduvizh.proofs.scans.scan_from.Goals as goal

pub returns : goal.returns
returns c = search (rules, ended_law)
