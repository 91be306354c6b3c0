-- `drivers::cutting_plane_feas::feas_step` meets its contract. Assumes nothing.
use Rattle.std.specs.Prelude.{Ok}
use mathlib.Core.Path.{ap, ◌∙◌}
use Rattle.oracles.specs.Ell.{ell_changed}
use Rattle.drivers.specs.CuttingPlane.{state_of}
use Rattle.drivers.proofs.cutting_plane_feas.Steps.{step_feasible, step_refused, step_cut}
use Rattle.drivers.proofs.cutting_plane_feas.feas_step.Goals as goal

pub returns-in-None : goal.returns-in-None
returns-in-None c =
    let a = c.args in
    rw c.no_cut-in-None.ensures
    (step_feasible a.rows a.table.now (state_of a.oracle a.ell a.mq.now a.xc.now a.grad.now a.grad_t.now)
    c.assess_feas-assessed.result _ c.assess_feas-assessed.ensures.grad_after (c.in-Ok.is ∙ ap Ok c.in-None.is))

pub returns-in-Some : goal.returns-in-Some
returns-in-Some c =
    let u = c.change-change in
    let a = c.args in
    step_cut a.rows a.table.now (state_of a.oracle a.ell a.mq.now a.xc.now a.grad.now a.grad_t.now)
    c.assess_feas-assessed.result _ c.assess_feas-assessed.ensures.grad_after _ (c.in-Ok.is ∙ ap Ok c.in-Some.is) (ell_changed a.ell u.result) _ u.ensures
    c.cut_answer.result c.cut_answer.ensures

pub returns-in-Err : goal.returns-in-Err
returns-in-Err c =
    let a = c.args in
    rw c.no_cut.ensures
    (step_refused a.rows a.table.now (state_of a.oracle a.ell a.mq.now a.xc.now a.grad.now a.grad_t.now)
    c.assess_feas-assessed.result _ c.assess_feas-assessed.ensures.grad_after _ c.in-Err.is)
