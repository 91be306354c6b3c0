-- `drivers::cutting_plane_optim::run_optim` meets its contract. Assumes nothing.
use Rattle.std.specs.Prelude.{ℕ, Ok}
use mathlib.Core.Path.{◌≡◌, refl, sym, ◌∙◌}
use mathlib.Core.Bool.{false}
use native.Mathlib.Omega.{arith}
use Rattle.drivers.specs.CuttingPlaneOptim.{optim_state_of, optim_end, optim_run}
use Rattle.drivers.proofs.cutting_plane.Left.{all_left}
use Rattle.drivers.proofs.cutting_plane_optim.Runs.{optim_more, optim_ends, optim_out}
use Rattle.numbers.specs.laws.Pick.{says_no, says_yes}
use Rattle.std.proofs.Math.Path.{ap}
use Rattle.std.proofs.Math.Bool.{not}
use Rattle.drivers.proofs.cutting_plane_optim.run_optim.Goals as goal

pub loop-niter-init : goal.loop-niter-init
loop-niter-init c =
    let a = c.args in (
      omega arith,
      all_left (λ m. optim_run a.rows a.table.now a.options.tolerance m 0 (optim_state_of a.oracle a.ell a.gamma false a.mq.now a.xc.now a.grad.now a.grad_t.now a.x_best.now)) a.options.max_iters,
      refl,
      refl,
      refl,
      refl,
      refl,
    )

pub returns-then-not-optim_goes_on : goal.returns-then-not-optim_goes_on
returns-then-not-optim_goes_on c =
    let l = c.loop-niter in
    let a = c.args in
    let f = c.optim_step-step in
    rw c.run_of.ensures
    (optim_ends a.rows a.table.now a.options.tolerance a.options.max_iters l.niter (optim_state_of l.oracle l.space l.offer l.found l.mq l.xc l.grad l.grad_t l.x_best) _ _
    c.loop-niter-test.true f.ensures (says_no _ _ c.optim_goes_on.ensures (ap not c.if-not-optim_goes_on.true)) _ c.optim_ended.ensures
    ∙ l.invariant.1)

pub loop-niter-preserved : goal.loop-niter-preserved
loop-niter-preserved c =
    let l = c.loop-niter in
    let a = c.args in
    let f = c.optim_step-step in
    let t = c.loop-niter-test.true in (
      omega (arith, t),
      sym (optim_more a.rows a.table.now a.options.tolerance a.options.max_iters l.niter (optim_state_of l.oracle l.space l.offer l.found l.mq l.xc l.grad l.grad_t l.x_best) _ _
          t f.ensures (says_yes _ _ c.optim_goes_on.ensures (ap not c.if-not-optim_goes_on.false)))
          ∙ l.invariant.1,
      f.auto.mq ∙ l.invariant.2,
      f.auto.xc ∙ l.invariant.3,
      f.auto.grad ∙ l.invariant.4,
      f.auto.grad_t ∙ l.invariant.5,
      f.auto.x_best ∙ l.invariant.6,
    )

pub returns : goal.returns
returns c =
    let l = c.loop-niter in
    let a = c.args in
    let e : a.options.max_iters ≡ l.niter = omega (arith, c.loop-niter-test.false, l.invariant.0) in
    rw c.run_of-2.ensures
    (ap (λ (k : ℕ). optim_end (Ok (record { found = l.found; steps = k })) l.oracle l.space l.offer l.mq l.xc l.grad l.grad_t l.x_best) e
    ∙ sym (optim_out a.rows a.table.now a.options.tolerance a.options.max_iters l.niter (optim_state_of l.oracle l.space l.offer l.found l.mq l.xc l.grad l.grad_t l.x_best) c.loop-niter-test.false)
    ∙ l.invariant.1)
