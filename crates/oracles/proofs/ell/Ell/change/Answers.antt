-- `oracles::ell::Ell::change` meets its contract. Assumes nothing.
use Rattle.std.specs.Prelude.{Err}
use Rattle.std.proofs.Common.{refl, sym, ap, ◌∙◌}
use Rattle.numbers.specs.laws.Refusal.{accepts}
use Rattle.oracles.specs.EllCommon.{change}
use Rattle.oracles.specs.Ell.{ell_buffers, ell_after, ell_update_of}
use Rattle.oracles.proofs.Refusals.{err_by, ok_by}
use Rattle.oracles.proofs.ell.Ell.change.Goals as goal

pub returns-in-Ok : goal.returns-in-Ok
unfolding ell_update_of
returns-in-Ok c = ap (ell_after c.args.self) c.update.ensures ∙ accepts _ _ _ (ok_by _ (sym c.in-Ok.is ∙ c.check.ensures.value)) refl

pub returns-in-Err : goal.returns-in-Err
returns-in-Err c =
    let a = c.args in
    rw c.refused.ensures
    (err_by (λ why. ell_after a.self (change (Err why) a.self.kappa a.self.tsq (ell_buffers a.mq.now a.xc.now a.grad_t.now))) _ _ (sym c.in-Err.is ∙ c.check.ensures.value))
