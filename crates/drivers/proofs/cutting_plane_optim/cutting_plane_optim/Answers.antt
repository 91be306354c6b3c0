-- `drivers::cutting_plane_optim::cutting_plane_optim` meets its contract. Assumes nothing.
use mathlib.Core.Bool.{false}
use Rattle.drivers.specs.CuttingPlaneOptim.{optim_state_of}
use Rattle.drivers.proofs.cutting_plane_optim.Answers.{optim_faulty, optim_done}
use Rattle.std.proofs.Common.{refl}
use Rattle.numbers.specs.laws.Refusal.{unless_err, unless_ok}
use Rattle.drivers.proofs.cutting_plane_optim.cutting_plane_optim.Goals as goal

pub returns-in-Err : goal.returns-in-Err
returns-in-Err c =
    let a = c.args in
    let p = optim_faulty a.options a.rows a.table.now (optim_state_of a.oracle a.ell a.gamma false a.mq.now a.xc.now a.grad.now a.grad_t.now a.x_best.now) _ refl _ _ (unless_err _ c.check-tested.ensures c.in-Err.is).1 in
    record { answer_and_state = p.0; refused_writes_nothing = p.1 }

pub returns-in-Ok : goal.returns-in-Ok
returns-in-Ok c =
    let a = c.args in
    let p = optim_done a.options a.rows a.table.now (optim_state_of a.oracle a.ell a.gamma false a.mq.now a.xc.now a.grad.now a.grad_t.now a.x_best.now) _ refl (unless_ok _ c.check-tested.ensures c.in-Ok.is) _ c.run_optim.ensures in
    record { answer_and_state = p.0; refused_writes_nothing = p.1 }
