-- `oracles::ell_stable::EllStable::update_core` meets its contract. Assumes nothing.
use Rattle.std.specs.Prelude.{Err}
use Rattle.std.proofs.Common.{refl, sym, ◌∙◌}
use Rattle.numbers.specs.laws.Refusal.{accepts}
use Rattle.oracles.specs.EllCommon.{change}
use Rattle.oracles.specs.EllStable.{stable_buffers, stable_after, stable_update_of}
use Rattle.oracles.proofs.Refusals.{err_by, ok_by}
use Rattle.oracles.proofs.ell_stable.EllStable.update_core.Goals as goal

pub returns-in-Ok : goal.returns-in-Ok
unfolding stable_update_of
returns-in-Ok c = c.update.ensures ∙ accepts _ _ _ (ok_by _ (sym c.in-Ok.is ∙ c.check.ensures.value)) refl

pub returns-in-Err : goal.returns-in-Err
returns-in-Err c =
    let a = c.args in
    rw c.refused.ensures
    (err_by (λ why. stable_after a.self (change (Err why) a.self.kappa a.self.tsq (stable_buffers a.mq.now a.xc.now a.inv_ml_g.now a.inv_md_inv_ml_g.now a.gg_t.now a.g_t.now))) _ _
    (sym c.in-Err.is ∙ c.check.ensures.value))
