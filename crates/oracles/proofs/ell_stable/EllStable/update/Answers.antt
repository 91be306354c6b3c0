-- `oracles::ell_stable::EllStable::update` meets its contract. Assumes nothing.
use mathlib.Core.Path.{refl}
use Rattle.oracles.specs.EllStable.{stable_buffers}
use Rattle.oracles.proofs.ell_stable.Laws.{stable_no_effect, stable_fails, stable_succeeds}
use Rattle.oracles.proofs.ell_common.Laws.{unlike}
use Rattle.std.proofs.Math.Path.{ap}
use Rattle.std.proofs.Math.Bool.{not}
use Rattle.oracles.proofs.ell_stable.EllStable.update.Goals as goal

pub returns-then-is_tiny : goal.returns-then-is_tiny
returns-then-is_tiny c =
    let a = c.args in
    let p = c.prepare-omega in
    stable_no_effect a.self a.strategy a.grad.now a.beta
    (stable_buffers a.mq.now a.xc.now a.inv_ml_g.now a.inv_md_inv_ml_g.now a.gg_t.now a.g_t.now)
    c.with_status.result p.result _ _ _ _ _ p.ensures c.is_tiny.ensures
    c.if-is_tiny.true c.with_status.ensures

pub returns-then-failed : goal.returns-then-failed
returns-then-failed c =
    let a = c.args in
    let p = c.prepare-omega in
    stable_fails a.self a.strategy a.grad.now a.beta
    (stable_buffers a.mq.now a.xc.now a.inv_ml_g.now a.inv_md_inv_ml_g.now a.gg_t.now a.g_t.now)
    c.with_status-then-failed.result p.result _ _ _ _ _ p.ensures c.is_tiny.ensures
    c.calc-answer.result _ c.calc-answer.ensures refl c.if-is_tiny.false
    (unlike _ (ap not c.eq-success.ensures) (ap not c.if-failed.true)) c.with_status-then-failed.ensures

pub returns : goal.returns
returns c =
    let a = c.args in
    let p = c.prepare-omega in
    let k = c.calc-answer in
    stable_succeeds a.self a.strategy a.grad.now a.beta
    (stable_buffers a.mq.now a.xc.now a.inv_ml_g.now a.inv_md_inv_ml_g.now a.gg_t.now a.g_t.now)
    c.with_status-2.result p.result _ _ _ _ _ p.ensures c.is_tiny.ensures
    k.result _ k.ensures refl c.if-is_tiny.false
    _ _ _ (unlike _ (ap not c.eq-success.ensures) (ap not c.if-failed.false)) c.succeed.ensures c.with_status-2.ensures
