-- What the loop of `drivers::cutting_plane_feas::run_feas` keeps: the steps that are left compute the answer.
use mathlib.Core.Path.{◌≡◌}
use Prim.Native.Nat.{◌≤◌, ◌-◌}
use lib.ListN.{length}
use Rattle.drivers.specs.CuttingPlane.{state_of}
use Rattle.drivers.specs.CuttingPlaneFeas.{feas_run}
use Rattle.drivers.proofs.cutting_plane_feas.run_feas.Given as goal

abbrev pub invariant-loop-niter : goal.invariant-loop-niter
invariant-loop-niter l =
    (l.niter ≤ l.options.max_iters)
    × (feas_run l.rows l.table l.options.tolerance (l.options.max_iters - l.niter) l.niter (state_of l.oracle l.space l.mq l.xc l.grad l.grad_t)
    ≡ feas_run l.rows l.table l.options.tolerance l.options.max_iters 0 (state_of l.initial.oracle l.initial.space l.initial.mq l.initial.xc l.initial.grad l.initial.grad_t))
    × (length l.mq ≡ length l.initial.mq) × (length l.xc ≡ length l.initial.xc) × (length l.grad ≡ length l.initial.grad) × (length l.grad_t ≡ length l.initial.grad_t)
