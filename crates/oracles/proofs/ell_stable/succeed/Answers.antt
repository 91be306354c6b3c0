-- `oracles::ell_stable::succeed` meets its contract. Assumes nothing.
use Rattle.oracles.proofs.ell_stable.Laws.{succeed_done}
use Rattle.oracles.proofs.ell_stable.succeed.Goals as goal

pub returns : goal.returns
returns c =
    let a = c.args in
    let k = c.copy_into in
    let k' = c.copy_into-2 in
    let b = c.backward in
    let r = c.rank_one.ensures in
    succeed_done a.n a.mq.now a.z.now a.grad.now a.xc.now a.omega a.params.rho a.params.sigma _ _ _ _ _ _
    k.ensures
    b.ensures c.move_centre.ensures
    k'.ensures
    r.0 r.1
