-- `oracles::ell::Ell::update` meets its contract. Assumes nothing.
use mathlib.Core.Path.{refl}
use Rattle.oracles.specs.Ell.{ell_buffers}
use Rattle.oracles.proofs.ell_common.Laws.{multiplied, unlike}
use Rattle.oracles.proofs.ell.Laws.{ell_no_effect, ell_fails, ell_succeeds}
use Rattle.oracles.proofs.ell.Ell.update.Goals as goal

pub returns-then-is_tiny : goal.returns-then-is_tiny
returns-then-is_tiny c =
    let m = c.dot_mv_into in
    let a = c.args in
    let g = multiplied a.self.ndim a.mq.now a.grad.now a.grad_t.now (m.result, m.new.out) m.ensures c.requires.0 c.requires.2.mq_long c.requires.1 c.requires.2.grad_t_long in
    ell_no_effect a.self a.strategy a.grad.now a.beta (ell_buffers a.mq.now a.xc.now a.grad_t.now) c.with_status.result _ c.dot_zip-omega.result _
    g c.dot_zip-omega.ensures c.is_tiny.ensures
    c.if-is_tiny.true c.with_status.ensures

pub returns-then-ne : goal.returns-then-ne
returns-then-ne c =
    let m = c.dot_mv_into in
    let a = c.args in
    let g = multiplied a.self.ndim a.mq.now a.grad.now a.grad_t.now (m.result, m.new.out) m.ensures c.requires.0 c.requires.2.mq_long c.requires.1 c.requires.2.grad_t_long in
    ell_fails a.self a.strategy a.grad.now a.beta (ell_buffers a.mq.now a.xc.now a.grad_t.now) c.with_status-then-ne.result _ c.dot_zip-omega.result _
    g c.dot_zip-omega.ensures c.is_tiny.ensures
    c.calc-answer.result _ c.calc-answer.ensures refl c.if-is_tiny.false (unlike _ c.ne.ensures c.if-ne.true) c.with_status-then-ne.ensures

pub returns : goal.returns
returns c =
    let m = c.dot_mv_into in
    let a = c.args in
    let g = multiplied a.self.ndim a.mq.now a.grad.now a.grad_t.now (m.result, m.new.out) m.ensures c.requires.0 c.requires.2.mq_long c.requires.1 c.requires.2.grad_t_long in
    ell_succeeds a.self a.strategy a.grad.now a.beta (ell_buffers a.mq.now a.xc.now a.grad_t.now) c.with_status-2.result _ c.dot_zip-omega.result _
    g c.dot_zip-omega.ensures c.is_tiny.ensures
    c.calc-answer.result _ c.calc-answer.ensures refl c.if-is_tiny.false _ _ (unlike _ c.ne.ensures c.if-ne.false)
    c.shrink.ensures c.move_centre.ensures c.with_status-2.ensures
