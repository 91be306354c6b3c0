-- `ponduvizh::ellipsoids::ponduvizh_ell_update` meets its contract. Assumes nothing.
use Rattle.ponduvizh.proofs.ellipsoids.Laws.{ell_made, ell_refused}
use borrow.Author.Rules.{rules}
use Rattle.ponduvizh.proofs.ellipsoids.ponduvizh_ell_update.Goals as goal

pub returns-in-Err : goal.returns-in-Err
returns-in-Err c = search (rules, ell_refused)

pub returns-in-Ok : goal.returns-in-Ok
returns-in-Ok c = search (rules, ell_made)
