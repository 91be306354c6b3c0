-- `drivers::cutting_plane_feas::cutting_plane_feas` meets its contract. Assumes nothing.
use Rattle.drivers.specs.CuttingPlane.{state_of}
use Rattle.drivers.proofs.cutting_plane_feas.Answers.{feas_faulty, feas_done}
use Rattle.std.specs.Prelude.{true, false}
use Rattle.std.proofs.Common.{refl, sym, ◌∙◌}
use Rattle.numbers.specs.laws.Pick.{skip}
use Rattle.numbers.specs.laws.Refusal.{unless_err, unless_ok}
use Rattle.drivers.proofs.cutting_plane_feas.cutting_plane_feas.Goals as goal

pub returns-in-Err : goal.returns-in-Err
returns-in-Err c =
    let a = c.args in
    let p = feas_faulty a.options a.rows a.table.now (state_of a.oracle a.ell a.mq.now a.xc.now a.grad.now a.grad_t.now) a.x_best.now _ refl _ _ (unless_err _ c.check-tested.ensures c.in-Err.is).1 in
    record { answer_and_state = p.0; refused_writes_nothing = p.1 }

pub returns-then-is_found : goal.returns-then-is_found
returns-then-is_found c =
    let a = c.args in
    let r = c.run_feas-run in
    let p = feas_done a.options a.rows a.table.now (state_of a.oracle a.ell a.mq.now a.xc.now a.grad.now a.grad_t.now) a.x_best.now _ refl (unless_ok _ c.check-tested.ensures c.in-Ok.is)
    r.result.answer _ r.ensures true (sym c.if-is_found.true ∙ c.is_found.ensures) _ c.keep.ensures in
    record { answer_and_state = p.0; refused_writes_nothing = p.1 }

pub returns-else-is_found : goal.returns-else-is_found
returns-else-is_found c =
    let a = c.args in
    let r = c.run_feas-run in
    let p = feas_done a.options a.rows a.table.now (state_of a.oracle a.ell a.mq.now a.xc.now a.grad.now a.grad_t.now) a.x_best.now _ refl (unless_ok _ c.check-tested.ensures c.in-Ok.is)
    r.result.answer _ r.ensures false (sym c.if-is_found.false ∙ c.is_found.ensures) _ (skip _ _ _ _ refl refl) in
    record { answer_and_state = p.0; refused_writes_nothing = p.1 }
