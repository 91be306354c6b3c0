-- `drivers::cutting_plane_optim::optim_step` meets its contract. Assumes nothing.
use Rattle.std.specs.Prelude.{Ok}
use Rattle.std.proofs.Common.{ap, ◌∙◌}
use Rattle.oracles.specs.Ell.{ell_changed}
use Rattle.drivers.specs.CuttingPlaneOptim.{optim_state_of}
use Rattle.drivers.proofs.cutting_plane_optim.Steps.{step_improved, step_cut_off, step_halted}
use Rattle.drivers.proofs.cutting_plane_optim.optim_step.Goals as goal

pub returns-in-Improved : goal.returns-in-Improved
returns-in-Improved c =
    let u = c.change-change in
    let a = c.args in
    step_improved a.rows a.table.now (optim_state_of a.oracle a.ell a.gamma a.found a.mq.now a.xc.now a.grad.now a.grad_t.now a.x_best.now)
    c.assess_optim-assessed.result _ c.assess_optim-assessed.ensures.grad_after (ell_changed a.ell u.result) _ c.optim_stepped.result _ (c.in-Ok.is ∙ ap Ok c.in-Improved.is) u.ensures c.optim_stepped.ensures _ c.keep.ensures

pub returns-in-Cut : goal.returns-in-Cut
returns-in-Cut c =
    let u = c.change-change-in-Cut in
    let a = c.args in
    step_cut_off a.rows a.table.now (optim_state_of a.oracle a.ell a.gamma a.found a.mq.now a.xc.now a.grad.now a.grad_t.now a.x_best.now)
    c.assess_optim-assessed.result _ c.assess_optim-assessed.ensures.grad_after (ell_changed a.ell u.result) _ c.optim_stepped-in-Cut.result _ (c.in-Ok.is ∙ ap Ok c.in-Cut.is) u.ensures c.optim_stepped-in-Cut.ensures

pub returns-in-Err : goal.returns-in-Err
returns-in-Err c =
    let a = c.args in
    step_halted a.rows a.table.now (optim_state_of a.oracle a.ell a.gamma a.found a.mq.now a.xc.now a.grad.now a.grad_t.now a.x_best.now)
    c.assess_optim-assessed.result _ c.assess_optim-assessed.ensures.grad_after _ c.in-Err.is
