-- What the calls of a run show: a step with its text, the last line, a refusal. Assumes nothing.
use Rattle.std.specs.Prelude.{Err, Ok}
use Rattle.numbers.specs.Refusal.{At, Sound}
use Prim.Native.Nat.{ℕ, suc, ◌≤◌, ◌<◌}
use mathlib.Core.Path.{◌≡◌, sym, ap, ◌∙◌}
use mathlib.Core.Bool.{Bool, false}
use mathlib.Core.List.{List, [], ◌++◌}
use native.Mathlib.Omega.{arith}
use borrow.Author.Tests.{lt-ltb, le-ltb, leb-true}
use lib.Dec.{ltb}
use lib.ListN.{length}
use lib.Ieee.{Float}
use Rattle.numbers.specs.Pick.{pick}
use Rattle.numbers.specs.declared.refusal.Refusal.{Refusal}
use Rattle.numbers.specs.laws.Refusal.{both_sound, ask_sound, refuses, accepts}
use Rattle.numbers.specs.laws.Pick.{hit, skip}
use Rattle.oracles.specs.Ell.{EllBuffers}
use Rattle.drivers.specs.laws.Text.{put_front, put_all}
use Rattle.drivers.specs.CuttingPlane.{State, check_state}
use Rattle.drivers.specs.CuttingPlaneFeas.{feas_step, goes_on, feas_ended, StepAnswer}
use Rattle.drivers.specs.Trace.{room, text_room, answer_pieces, last_pieces, ended_pieces}
use Rattle.drivers.specs.Run.{run_state, run_at, step_printed, limit_printed, not_printed, next_tests, next_answer}
use Rattle.drivers.specs.laws.Trace.{last_most, step_pieces}
use Rattle.drivers.specs.declared.answer.Answer.{Answer}
use Rattle.drivers.specs.declared.run.Run.{Run}
use Rattle.drivers.specs.declared.run.Printed.{Printed}

module _ (run : Run) (table : List Float) (b : EllBuffers) (grad : List Float) (out : List ℕ) where
  -- the pieces of the step, and the rest of its text; the number of the next one
  pub step_shown : (answer : StepAnswer) (s : State) (more : Bool) (rest : List (List ℕ)) (r : ℕ × List ℕ) (k : ℕ) (next : Run) → 128 ≤ length out
      → (answer, s) ≡ feas_step run.rows table (run_state run b grad) → more ≡ goes_on answer s.ell.tsq run.options.tolerance
      → rest ≡ pick more [] (ended_pieces (feas_ended answer run.niter)) → r ≡ put_all out 0 (answer_pieces run.niter answer ++ rest)
      → k ≡ pick more (suc run.niter) run.niter → next ≡ run_at run s k
      → (record { run = next; more = more; text = Ok r.0 }, s.buffers, s.grad, r.1) ≡ step_printed run table b grad out
  unfolding step_printed
  step_shown answer s more rest r k next h e m t f n g =
      let w = step_pieces out run.niter more answer rest r h t f in
      let p = g ∙ ap (run_at run s) n in
      rw (← e, ← m) (λ i. (record { run = p i; more = more; text = Ok (w i).0 }, s.buffers, s.grad, (w i).1))

  shown_refused : (why : Refusal) (q : Printed) → q ≡ record { run = run; more = false; text = Err why } → (q, b, grad, out) ≡ not_printed run b grad out why
  shown_refused why q e = ap (λ (p : Printed). (p, b, grad, out)) e

  -- `next`, by what the tests say
  pub next_faulty : (why : Refusal) (place : ℕ) (q : Printed) → At why place ≡ next_tests run table b grad out
      → q ≡ record { run = run; more = false; text = Err why } → (q, b, grad, out) ≡ next_answer run table b grad out
  unfolding next_answer
  next_faulty why place q e f = refuses _ _ (next_tests run table b grad out) e (shown_refused why q f)

  module _ (e : Sound ≡ next_tests run table b grad out) where
    pub roomy : room ≤ length out
    roomy = leb-true room (length out) (ask_sound _ _ _ (both_sound (check_state run.rows table (run_state run b grad)) (text_room out) (sym e)).1)

    accepted : (p : Printed × EllBuffers × List Float × List ℕ)
        → p ≡ pick (ltb run.niter run.options.max_iters) (step_printed run table b grad out) (limit_printed run b grad out) → p ≡ next_answer run table b grad out
    unfolding next_answer
    accepted p f = accepts _ _ (next_tests run table b grad out) e f

    pub next_step : (p : Printed × EllBuffers × List Float × List ℕ) → run.niter < run.options.max_iters → p ≡ step_printed run table b grad out
        → p ≡ next_answer run table b grad out
    next_step p l f = accepted p (hit _ _ _ _ (lt-ltb run.niter run.options.max_iters l) f)

    shown_limit : (r : ℕ × List ℕ) → r ≡ put_all out 0 (last_pieces (record { found = false; steps = run.niter }))
        → (record { run = run; more = false; text = Ok r.0 }, b, grad, r.1) ≡ limit_printed run b grad out
    unfolding limit_printed
    shown_limit r f =
        let a : Answer = record { found = false; steps = run.niter } in
        ap (λ (q : ℕ × List ℕ). (record { run = run; more = false; text = Ok q.0 }, b, grad, q.1)) (put_front out (last_pieces a) r (omega (arith, last_most a, roomy)) f)

    pub next_limit : (r : ℕ × List ℕ) → run.options.max_iters ≤ run.niter → r ≡ put_all out 0 (last_pieces (record { found = false; steps = run.niter }))
        → (record { run = run; more = false; text = Ok r.0 }, b, grad, r.1) ≡ next_answer run table b grad out
    next_limit r l f = accepted _ (skip _ _ _ _ (le-ltb run.niter run.options.max_iters l) (shown_limit r f))
