-- `oracles::ell_stable::prepare` meets its contract. Assumes nothing.
use mathlib.Core.Path.{◌≡◌}
use borrow.Author.Rules.{rules}
use lib.ListN.{length}
use Rattle.oracles.proofs.ell_stable.Laws.{prepare_done}
use Rattle.oracles.proofs.ell_stable.prepare.Goals as goal

pub returns : goal.returns
returns c =
    let a = c.args in
    let k = c.copy_into in
    let w = c.forward in
    let f = w.ensures in
    let o = c.omega_into.ensures in
    prepare_done a.n a.mq.now a.grad.now _ _ _ _ _ _ _
    k.ensures
    f.0 f.1 c.scale_into.ensures (let l : length w.new.column ≡ a.n = search rules in l) o.0 o.1
