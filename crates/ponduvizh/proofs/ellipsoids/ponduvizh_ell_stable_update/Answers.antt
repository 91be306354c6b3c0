-- `ponduvizh::ellipsoids::ponduvizh_ell_stable_update` meets its contract. Assumes nothing.
use Rattle.ponduvizh.proofs.ellipsoids.Laws.{stable_made, stable_refused}
use borrow.Author.Rules.{rules}
use Rattle.ponduvizh.proofs.ellipsoids.ponduvizh_ell_stable_update.Goals as goal

pub returns-in-Ok : goal.returns-in-Ok
returns-in-Ok c =
    stable_made _ _ _ _ _ _ _ _ _ c.new_with_matrix.ensures _ _ _ _ _ _ _ _ _
    c.in-Ok.is c.strategy_of-how.ensures c.beta_of-beta.ensures c.update_core-u.ensures c.put_update.ensures

pub returns-in-Err : goal.returns-in-Err
returns-in-Err c = search (rules, stable_refused)
