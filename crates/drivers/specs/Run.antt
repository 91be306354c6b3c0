-- A run of a job, a step at a time, with its text, and how a program's input is opened (document 01, "The program `filterrun`"). Definitions only.
use Rattle.oracles.specs.declared.ell.Ell.{Ell}
use Rattle.std.specs.Prelude.{ℕ, zero, suc, false, List, [], ◌++◌, ltb, length, Float, Err, Ok, Result}
use Rattle.numbers.specs.Pick.{pick}
use Rattle.numbers.specs.Refusal.{◌⨾◌, unless, Tests}
use Rattle.numbers.specs.declared.refusal.Refusal.{Refusal}
use Rattle.numbers.specs.Over.{over}
use Rattle.oracles.specs.Ell.{EllBuffers, new_ell_answer}
use Rattle.drivers.specs.Text.{joined}
use Rattle.drivers.specs.Job.{job_oracle}
use Rattle.drivers.specs.declared.job.Job.{Job}
use Rattle.drivers.specs.declared.trace.Source.TheVariants.{Only}
use Rattle.drivers.specs.declared.run.Run.{Run}
use Rattle.drivers.specs.declared.run.Printed.{Printed}
use Rattle.drivers.specs.CuttingPlane.{State, check_state}
use Rattle.drivers.specs.CuttingPlaneFeas.{feas_step, goes_on}
use Rattle.drivers.specs.Trace.{last_pieces, text_room, refused_line_answer, step_text, Text}
use Rattle.drivers.specs.Input.{with_slices, take_job_answer}

-- before its first step; n has been tested by the reader, and is again
abbrev pub run_of : Job → Result Ell Refusal → Result Run Refusal
run_of j (Ok e) = Ok (record { oracle = job_oracle j; ell = e; options = j.options; rows = j.rows; niter = 0 })
run_of j (Err why) = Err why

abbrev pub new_run_answer : Job → Result Run Refusal
new_run_answer j = run_of j (new_ell_answer j.n j.kappa)

-- what a run moves, with the slices that it is lent
abbrev pub run_state : Run → EllBuffers → List Float → State
run_state run b grad = record { oracle = run.oracle; ell = run.ell; buffers = b; grad = grad }

-- the run after a step
abbrev pub run_at : Run → State → ℕ → Run
run_at run s k = record { oracle = s.oracle; ell = s.ell; options = run.options; rows = run.rows; niter = k }

-- a step and its text
unfoldable pub step_printed : Run → List Float → EllBuffers → List Float → List ℕ → Printed × EllBuffers × List Float × List ℕ
step_printed run table b grad out =
    let k = run.niter in
    let r = feas_step run.rows table (run_state run b grad) in
    let more = goes_on r.0 r.1.ell.tsq run.options.tolerance in
    let text = step_text k more r.0 in (
      record { run = run_at run r.1 (pick more (suc k) k); more = more; text = Ok (length text) },
      r.1.buffers,
      r.1.grad,
      over out 0 text,
    )

-- the last line of a run whose step limit has run out
unfoldable pub limit_printed : Run → EllBuffers → List Float → List ℕ → Printed × EllBuffers × List Float × List ℕ
limit_printed run b grad out =
    let text = joined (last_pieces (record { found = false; steps = run.niter })) in
    (record { run = run; more = false; text = Ok (length text) }, b, grad, over out 0 text)

-- a run that is refused, with everything as it came
abbrev pub not_printed : Run → EllBuffers → List Float → List ℕ → Refusal → Printed × EllBuffers × List Float × List ℕ
not_printed run b grad out why = (record { run = run; more = false; text = Err why }, b, grad, out)

-- `Run::next`: refusals 1 to 4, then 11; then a step, or the end where the limit has run out
abbrev pub next_tests : Run → List Float → EllBuffers → List Float → List ℕ → Tests
next_tests run table b grad out = check_state run.rows table (run_state run b grad) ⨾ text_room out

unfoldable pub next_answer : Run → List Float → EllBuffers → List Float → List ℕ → Printed × EllBuffers × List Float × List ℕ
next_answer run table b grad out =
    unless (next_tests run table b grad out) (λ why place. not_printed run b grad out why)
    (pick (ltb run.niter run.options.max_iters) (step_printed run table b grad out) (limit_printed run b grad out))

-- all that is printed by the steps k, k + 1, .. of which so many are left, and the lines of their cuts alone: the steps that feas-run takes
unfoldable pub run_text : ℕ → List Float → Float → ℕ → ℕ → State → List ℕ
run_text rows table tolerance zero k s = joined (last_pieces (record { found = false; steps = k }))
run_text rows table tolerance (suc left) k s =
    let r = feas_step rows table s in
    let more = goes_on r.0 r.1.ell.tsq tolerance in
    step_text k more r.0 ++ pick more (run_text rows table tolerance left (suc k) r.1) []

-- ---- the run of a program's input

abbrev pub opened_refused : Text × List ℕ → Result Run Text × List ℕ
opened_refused t = (Err t.0, t.1)

abbrev pub opened_run : List ℕ → Result Run Refusal → Result Run Text × List ℕ
opened_run out (Ok run) = (Ok run, out)
opened_run out (Err why) = opened_refused (refused_line_answer Only why 0 out)

abbrev pub opened_job : Job → List ℕ → Result Run Text × List ℕ
opened_job j out = opened_run out (new_run_answer j)

abbrev pub opened_taken : List ℕ → Result Job Text → Result Run Text × List ℕ
opened_taken out (Ok j) = opened_job j out
opened_taken out (Err text) = (Err text, out)

-- `open`: the job is taken, and its run made
unfoldable pub open_answer : List ℕ → List Float → List Float → List Float → List ℕ → Result Run Text × List Float × List Float × List Float × List ℕ
open_answer bytes table xc mq out =
    let t = take_job_answer Only bytes table xc mq out in
    with_slices t.1 t.2 t.3 (opened_taken t.4 t.0)
