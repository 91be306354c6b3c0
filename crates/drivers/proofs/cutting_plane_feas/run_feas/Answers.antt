-- `drivers::cutting_plane_feas::run_feas` meets its contract. Assumes nothing.
use Rattle.std.specs.Prelude.{ℕ, false, Ok}
use mathlib.Core.Path.{◌≡◌, refl, sym, ◌∙◌}
use native.Mathlib.Omega.{arith}
use Rattle.drivers.specs.CuttingPlane.{state_of}
use Rattle.drivers.specs.CuttingPlaneFeas.{feas_run}
use Rattle.drivers.proofs.cutting_plane.Left.{all_left}
use Rattle.drivers.proofs.cutting_plane_feas.Runs.{feas_more, feas_ends, feas_out}
use Rattle.numbers.specs.laws.Pick.{says_no, says_yes}
use Rattle.std.proofs.Math.Path.{ap}
use Rattle.std.proofs.Math.Bool.{not}
use Rattle.drivers.proofs.cutting_plane_feas.run_feas.Goals as goal

pub loop-niter-init : goal.loop-niter-init
loop-niter-init c = let a = c.args in (omega arith, all_left (λ m. feas_run a.rows a.table.now a.options.tolerance m 0 (state_of a.oracle a.ell a.mq.now a.xc.now a.grad.now a.grad_t.now)) a.options.max_iters, refl, refl, refl, refl)

pub returns-then-not-goes_on : goal.returns-then-not-goes_on
returns-then-not-goes_on c =
    let l = c.loop-niter in
    let a = c.args in
    let f = c.feas_step-step in
    feas_ends a.rows a.table.now a.options.tolerance a.options.max_iters l.niter (state_of l.oracle l.space l.mq l.xc l.grad l.grad_t) _ _
    c.loop-niter-test.true f.ensures (says_no _ _ c.goes_on.ensures (ap not c.if-not-goes_on.true)) _ c.feas_ended.ensures
    ∙ l.invariant.1

pub loop-niter-preserved : goal.loop-niter-preserved
loop-niter-preserved c =
    let l = c.loop-niter in
    let a = c.args in
    let f = c.feas_step-step in
    let t = c.loop-niter-test.true in (
      omega (arith, t),
      sym (feas_more a.rows a.table.now a.options.tolerance a.options.max_iters l.niter (state_of l.oracle l.space l.mq l.xc l.grad l.grad_t) _ _
          t f.ensures (says_yes _ _ c.goes_on.ensures (ap not c.if-not-goes_on.false)))
          ∙ l.invariant.1,
      f.auto.mq ∙ l.invariant.2,
      f.auto.xc ∙ l.invariant.3,
      f.auto.grad ∙ l.invariant.4,
      f.auto.grad_t ∙ l.invariant.5,
    )

pub returns : goal.returns
returns c =
    let l = c.loop-niter in
    let a = c.args in
    let e : a.options.max_iters ≡ l.niter = omega (arith, c.loop-niter-test.false, l.invariant.0) in
    ap (λ (k : ℕ). (Ok (record { found = false; steps = k }), state_of l.oracle l.space l.mq l.xc l.grad l.grad_t)) e
    ∙ sym (feas_out a.rows a.table.now a.options.tolerance a.options.max_iters l.niter (state_of l.oracle l.space l.mq l.xc l.grad l.grad_t) c.loop-niter-test.false)
    ∙ l.invariant.1
