-- `ponduvizh::scans::put_scan` meets its contract. Assumes nothing.
use Rattle.ponduvizh.proofs.scans.Laws.{scan_law}
use borrow.Author.Rules.{rules}
use Rattle.ponduvizh.proofs.scans.put_scan.Goals as goal

pub returns : goal.returns
returns c = search (rules, scan_law)
