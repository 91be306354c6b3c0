-- What the loop of `drivers::cutting_plane_optim::run_optim` keeps: the steps that are left compute the answer.
use mathlib.Core.Path.{◌≡◌}
use Prim.Native.Nat.{◌≤◌, ◌-◌}
use lib.ListN.{length}
use Rattle.drivers.specs.CuttingPlaneOptim.{optim_state_of, optim_run}
use Rattle.drivers.proofs.cutting_plane_optim.run_optim.Given as goal

abbrev pub invariant-loop-niter : goal.invariant-loop-niter
invariant-loop-niter l =
    (l.niter ≤ l.options.max_iters)
    × (optim_run l.rows l.table l.options.tolerance (l.options.max_iters - l.niter) l.niter (optim_state_of l.oracle l.space l.offer l.found l.mq l.xc l.grad l.grad_t l.x_best)
    ≡ optim_run l.rows l.table l.options.tolerance l.options.max_iters 0 (optim_state_of l.initial.oracle l.initial.space l.initial.offer l.initial.found l.initial.mq l.initial.xc l.initial.grad l.initial.grad_t l.initial.x_best))
    × (length l.mq ≡ length l.initial.mq) × (length l.xc ≡ length l.initial.xc) × (length l.grad ≡ length l.initial.grad) × (length l.grad_t ≡ length l.initial.grad_t) × (length l.x_best ≡ length l.initial.x_best)
