-- The first demand of docs/00-demands.md for drivers and records: as Demand1 has it for the layers below. Assumes nothing.
use Rattle.drivers.specs.CuttingPlaneOptim.{optim_refused}
use Rattle.drivers.specs.Trace.{Text}
use Rattle.numbers.specs.declared.refusal.Fault.{Fault}
use Rattle.std.specs.Prelude.{ℕ, ◌≤◌, ◌≡◌, refl, List, ◌⊎◌, length, Float, Ok, Result}
use Rattle.std.proofs.Common.{sym, inl, inr, arith, leb-true}
use Rattle.std.proofs.Math.Path.{ap}
use Rattle.numbers.specs.Refusal.{◌⨾◌, unless, At, Sound, Tests, number_at, number_of}
use Rattle.numbers.specs.laws.Pick.{by_test}
use Rattle.numbers.specs.laws.Refusal.{both_sound, ask_sound, refuses as refused_at}
use Rattle.oracles.specs.Ell as ell
use Rattle.numbers.specs.declared.refusal.Refusal.{Refusal}
use Rattle.drivers.specs.CuttingPlane as run
use Rattle.drivers.specs.CuttingPlaneFeas as feas
use Rattle.drivers.specs.CuttingPlaneOptim as optim
use Rattle.drivers.specs.Trace as trace
use Rattle.drivers.specs.Input as inputs
use Rattle.drivers.specs.Run as runs
use Rattle.drivers.specs.Job as jobs
use Rattle.drivers.specs.WriteJob as writing
use Rattle.drivers.specs.Answer as answers
use Rattle.drivers.specs.Belongs as belonging
use Rattle.drivers.specs.Program as filterrun
use Rattle.drivers.specs.Numbered.{optim_number}
use Rattle.drivers.specs.laws.RunEnds.{run_ends}
use Rattle.drivers.specs.laws.OptimEnds.{OptimRunEnded, optim_answered}
use Rattle.drivers.specs.declared.cutting_plane.Options.{Options}
use Rattle.drivers.specs.declared.run.Run.{Run}
use Rattle.drivers.specs.declared.run.Printed.{Printed}
use Rattle.drivers.specs.declared.job.Job.{Job}
use Rattle.drivers.specs.declared.trace.Source.{Source}
use Rattle.drivers.specs.declared.trace.Source.TheVariants.{Only, Answer as OfAnswer}
use Rattle.drivers.specs.declared.answer.Answer.{Answer}
use Rattle.demands.specs.Demand1.{Refuses, refuses}

pub cutting_plane_feas : (options : Options) (rows : ℕ) (table : List Float) (s : run.State) (best : List Float)
    → Refuses {L = run.State × List Float} (run.run_tests rows table s best) (λ r. number_of r.0) (λ r. (r.1, r.2)) (s, best) (feas.feas_answer options rows table s best)
unfolding feas.feas_answer
cutting_plane_feas options rows table s best =
    refuses _ _ _ _ _ _ (λ why place. refl) (λ why place. refl)
    (λ e. ap number_of (run_ends rows table options.tolerance options.max_iters 0 s (both_sound (run.check_state rows table s) _ e).0).answer_is)

-- `cutting_plane_optim`: a refusal gives everything back ..
module _ (options : Options) (rows : ℕ) (table : List Float) (s : optim.OptimState) where
  pub optim_refused_by : (why : Refusal) (place : ℕ) → run.run_tests rows table (optim.plain s) s.best ≡ At why place → optim.optim_answer options rows table s ≡ optim.end_of (optim_refused why) s
  unfolding optim.optim_answer
  optim_refused_by why place e = ap (λ (f : Tests). unless f (λ w p. optim.end_of (optim_refused w) s) (optim.optim_run rows table options.tolerance options.max_iters 0 s)) e

  -- .. and what is accepted ends, or is halted by 6: "a driver halted midway keeps its finished steps", which are `until` steps from s to `final`
  pub optim_finishes : run.run_tests rows table (optim.plain s) s.best ≡ Sound → OptimRunEnded rows table s 0 options.max_iters 0 (optim.optim_answer options rows table s)
  optim_finishes e =
      let b = both_sound (run.check_state rows table (optim.plain s)) _ e in
      optim_answered options rows table s b.0 (leb-true _ _ (ask_sound _ _ _ b.1))

pub next : (r : Run) (table : List Float) (b : ell.EllBuffers) (grad : List Float) (out : List ℕ)
    → Refuses {L = Run × ell.EllBuffers × List Float × List ℕ} (runs.next_tests r table b grad out) (λ z. number_of z.0.text) (λ z. (z.0.run, z.1, z.2, z.3)) (r, b, grad, out)
    (runs.next_answer r table b grad out)
unfolding runs.next_answer runs.step_printed runs.limit_printed
next r table b grad out =
    refuses _ _ _ _ _ _ (λ why place. refl) (λ why place. refl) (λ e. by_test (λ (z : Printed × ell.EllBuffers × List Float × List ℕ). number_of z.0.text ≡ 0) _ _ _ (λ t. refl) (λ t. refl))

pub belongs : (j : Job) (table x : List Float) (a : Answer) (point grad : List Float)
    → Refuses (belonging.belongs_tests j table x point grad) (λ r. number_of r.0) (λ r. r.1) grad (belonging.belongs_answer j table x a point grad)
unfolding belonging.belongs_answer
belongs j table x a point grad =
    refuses _ _ _ _ _ _ (λ why place. refl) (λ why place. refl) (λ e. refl)

-- "a bad record": the readers, which tell the place too, and leave the outputs as they were
pub read_job : (bytes : List ℕ) (table xc mq : List Float)
    → Refuses {L = List Float × List Float × List Float} (jobs.read_job_tests bytes table xc mq) (λ r. number_at r.0) (λ r. (r.1, r.2, r.3))
    (table, xc, mq) (jobs.read_job_answer bytes table xc mq)
unfolding jobs.read_job_answer
read_job bytes table xc mq = refuses _ _ _ _ _ _ (λ why place. refl) (λ why place. refl) (λ e. refl)

pub read_job_place : (bytes : List ℕ) (table xc mq : List Float) (why : Refusal) (place : ℕ)
    → (jobs.read_job_tests bytes table xc mq) ≡ At why place → (jobs.read_job_answer bytes table xc mq).0 ≡ At why place
unfolding jobs.read_job_answer
read_job_place bytes table xc mq why place e = ap (λ (z : Result Job Fault × List Float × List Float × List Float). z.0) (sym (refused_at _ _ _ (sym e) refl))

pub read_answer : (n : ℕ) (bytes : List ℕ) (out : List Float)
    → Refuses (answers.read_answer_tests n bytes (length out)) (λ r. number_at r.0) (λ r. r.1) out (answers.read_answer_answer n bytes out)
unfolding answers.read_answer_answer
read_answer n bytes out = refuses _ _ _ _ _ _ (λ why place. refl) (λ why place. refl) (λ e. refl)

pub read_answer_place : (n : ℕ) (bytes : List ℕ) (out : List Float) (why : Refusal) (place : ℕ)
    → (answers.read_answer_tests n bytes (length out)) ≡ At why place → (answers.read_answer_answer n bytes out).0 ≡ At why place
unfolding answers.read_answer_answer
read_answer_place n bytes out why place e = ap (λ (z : Result Answer Fault × List Float). z.0) (sym (refused_at _ _ _ (sym e) refl))

-- "slices, bands and cursors outside its limits" and "a short buffer": the writers
pub write_job : (f : jobs.FullJob) (out : List ℕ) → Refuses (writing.write_job_tests f out) (λ r. number_of r.0) (λ r. r.1) out (writing.write_job_answer f out)
unfolding writing.write_job_answer
write_job f out = refuses _ _ _ _ _ _ (λ why place. refl) (λ why place. refl) (λ e. refl)

pub write_answer : (n : ℕ) (a : Answer) (point : List Float) (out : List ℕ) → Refuses (answers.write_answer_tests n a point out) (λ r. number_of r.0) (λ r. r.1) out (answers.write_answer_answer n a point out)
unfolding answers.write_answer_answer
write_answer n a point out = refuses _ _ _ _ _ _ (λ why place. refl) (λ why place. refl) (λ e. refl)

-- "a bad or overlong record": all that the program prints then is one line, with the number and the place of the first fault
pub program : (bytes : List ℕ) (why : Refusal) (place : ℕ) → (inputs.input_tests bytes ⨾ jobs.job_fault bytes) ≡ At why place → filterrun.program_text bytes ≡ trace.refused_text Only why place
unfolding filterrun.program_text
program bytes why place e = sym (refused_at _ _ _ (sym e) refl)

-- `take_job` and `take_answer` test the input's length, then what the reader tests: the slices stay, and `out` has the line that says so, or is as it was where it is too short for a line
pub take_job_refused : (source : Source) (bytes : List ℕ) (table xc mq : List Float) (out : List ℕ) (why : Refusal) (place : ℕ) → inputs.take_job_tests bytes table xc mq ≡ At why place
    → inputs.take_job_answer source bytes table xc mq out ≡ inputs.with_slices table xc mq (inputs.job_refused (trace.refused_line_answer source why place out))
unfolding inputs.take_job_answer
take_job_refused source bytes table xc mq out why place e = sym (refused_at _ _ _ (sym e) refl)

pub take_answer_refused : (n : ℕ) (bytes : List ℕ) (point : List Float) (out : List ℕ) (why : Refusal) (place : ℕ) → inputs.take_answer_tests n bytes point ≡ At why place
    → inputs.take_answer_answer n bytes point out ≡ inputs.answer_refused point (trace.refused_line_answer OfAnswer why place out)
unfolding inputs.take_answer_answer
take_answer_refused n bytes point out why place e = sym (refused_at _ _ _ (sym e) refl)

-- and so does `open`
pub open_refused : (bytes : List ℕ) (table xc mq : List Float) (out : List ℕ) (why : Refusal) (place : ℕ) → inputs.take_job_tests bytes table xc mq ≡ At why place
    → runs.open_answer bytes table xc mq out ≡ inputs.with_slices table xc mq (runs.opened_refused (trace.refused_line_answer Only why place out))
unfolding runs.open_answer
open_refused bytes table xc mq out why place e =
    ap (λ (t : Result Job Text × List Float × List Float × List Float × List ℕ). inputs.with_slices t.1 t.2 t.3 (runs.opened_taken t.4 t.0)) (take_job_refused Only bytes table xc mq out why place e)

-- "each accepted call finishes": a run of either driver, within its step limit
pub record Finishes (limit : ℕ) (end : (Result Answer Refusal)) : Type 0 where
  pub answer : Answer
  pub answer_is : end ≡ Ok answer
  pub within : answer.steps ≤ limit

pub feas_finishes : (options : Options) (rows : ℕ) (table : List Float) (s : run.State) (best : List Float) → run.run_tests rows table s best ≡ Sound
    → Finishes options.max_iters (feas.feas_answer options rows table s best).0
unfolding feas.feas_answer
feas_finishes options rows table s best e =
    let r = run_ends rows table options.tolerance options.max_iters 0 s (both_sound (run.check_state rows table s) _ e).0 in
    rw e (record { answer = r.answer; answer_is = r.answer_is; within = omega (arith, r.steps_within) })

pub optim_numbers : (options : Options) (rows : ℕ) (table : List Float) (s : optim.OptimState) → run.run_tests rows table (optim.plain s) s.best ≡ Sound
    → (optim_number (optim.optim_answer options rows table s).answer ≡ 0) ⊎ (optim_number (optim.optim_answer options rows table s).answer ≡ 6)
optim_numbers options rows table s e = elim (optim_finishes options rows table s e).outcome [ inl o ↦ inl o.1 | inr o ↦ inr o.1 ]
