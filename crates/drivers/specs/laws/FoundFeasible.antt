-- What `cutting_plane_feas` answers to a job belongs to that job, if its step limit is above 0. Assumes nothing.
use Rattle.numbers.specs.declared.refusal.Refusal.{Refusal}
use Rattle.std.specs.Prelude.{ℕ, ◌*◌, ◌≤◌, ◌≡◌, refl, true, not, ◌&&◌, List, leb, length, take, Float, Ok, Result}
use Rattle.std.proofs.Math.Path.{sym}
use Rattle.std.proofs.Common.{ap, subst, ◌∙◌, arith, le-leb}
use Rattle.oracles.specs.Verdict.{judge, is_feasible}
use Rattle.oracles.specs.Ell.{EllBuffers}
use Rattle.drivers.specs.Record.{fronted}
use Rattle.drivers.specs.CuttingPlane.{State, kept, run_tests}
use Rattle.drivers.specs.CuttingPlaneFeas.{feas_run, is_found, feas_answer}
use Rattle.drivers.specs.Job.{read_job_answer}
use Rattle.drivers.specs.Belongs.{feasible_for, is_of}
use Rattle.drivers.specs.laws.StepSound.{sound_fits}
use Rattle.drivers.specs.laws.RunEnds.{RunEnded, asked_again}
use Rattle.drivers.specs.laws.Job.{JobSound}
use Rattle.drivers.specs.laws.JobRuns.{JobSlices, job_sound, held_slices, job_state, job_run_sound, job_ends}
use Rattle.drivers.specs.declared.answer.Answer.{Answer}
use Rattle.drivers.specs.declared.job.Job.{Job}
use Rattle.numbers.specs.laws.Pick.{is_hit, both_ways}
use Rattle.numbers.specs.laws.Refusal.{held, at_next, accepts}
use Rattle.numbers.specs.laws.Over.{front_over}

-- An answer, r, to a job whose point is x. Its steps are within the job's limit. A point that is found is feasible for the job.
-- Where the limit allows a step, an answer without a point belongs to the job too: its own point is not feasible.
pub record Answered (j : Job) (table x : List Float) (r : Result Answer Refusal × State × List Float) : Type 0 where
  pub answer : Answer
  pub answer_is : r.0 ≡ Ok answer
  pub steps_within : answer.steps ≤ j.options.max_iters
  pub found_feasible : answer.found ≡ true → feasible_for j table (take j.n r.2) ≡ true
  pub belongs : 1 ≤ j.options.max_iters → is_of j table x answer (take j.n r.2) ≡ true

module _ (j : Job) (h : JobSound j) (table : List Float) (b : EllBuffers) (grad best : List Float) (l : JobSlices j table b grad) (room : j.n ≤ length best) where
  -- the run, its steps, and what is called of it
  abbrev pub job_run_answer : Result Answer Refusal × State
  job_run_answer = feas_run j.rows table j.options.tolerance j.options.max_iters 0 (job_state j b grad)

  ends : RunEnded j.rows table j.options.max_iters 0 (job_state j b grad) job_run_answer
  ends = job_ends j h table b grad l

  pub job_call : feas_answer j.options j.rows table (job_state j b grad) best
      ≡ (job_run_answer.0, job_run_answer.1, kept (is_found job_run_answer.0) job_run_answer.1.buffers.xc best)
  unfolding feas_answer
  job_call =
      sym (accepts _ _ (run_tests j.rows table (job_state j b grad) best) (at_next (sym (job_run_sound j h table b grad l)) (held _ _ (le-leb j.n (length best) room))) refl)

  xc_long : length job_run_answer.1.buffers.xc ≡ j.n
  xc_long = (sound_fits j.rows table job_run_answer.1 ends.sound).long.xc_long ∙ ends.ndim_stays

  -- a point that is found is the centre at the run's end
  pub found_point : is_found job_run_answer.0 ≡ true → take j.n (kept (is_found job_run_answer.0) job_run_answer.1.buffers.xc best) ≡ job_run_answer.1.buffers.xc
  found_point f =
      let xc = job_run_answer.1.buffers.xc in
      let t : (is_found job_run_answer.0 && leb (length xc) (length best)) ≡ true = rw f (le-leb (length xc) (length best) (omega (arith, xc_long))) in
      ap (λ (l : List Float). take j.n l) (is_hit _ (fronted xc best) best t) ∙ ap (λ (k : ℕ). take k (fronted xc best)) (sym xc_long) ∙ front_over best xc

  found_judged : ends.answer.found ≡ true → feasible_for j table (take j.n (kept (is_found job_run_answer.0) job_run_answer.1.buffers.xc best)) ≡ true
  found_judged f =
      ap (λ (x : List Float). feasible_for j table x) (found_point (ap is_found ends.answer_is ∙ f))
      ∙ ap (λ q. is_feasible (judge q)) (sym (asked_again j.rows table (job_state j b grad) job_run_answer.1 ends.ndim_stays ends.limits_stay))
      ∙ ends.found_feasible f

  pub job_answered : Answered j table b.xc (feas_answer j.options j.rows table (job_state j b grad) best)
  job_answered =
      subst (λ z. Answered j table b.xc z) (sym job_call) (record {
        answer = ends.answer;
        answer_is = ends.answer_is;
        steps_within = omega (arith, ends.steps_within);
        found_feasible = found_judged;
        belongs = λ k. sym (both_ways ends.answer.found (λ f. sym (found_judged f)) (λ f. sym (ap not (ends.none_feasible f k))));
      })

-- So every job that `read_job` has read is answered over the slices that it was read into, with scratch and an output of n numbers.
pub read_answered : (bytes : List ℕ) (table xc mq table' xc' mq' : List Float) (j : Job) → read_job_answer bytes table xc mq ≡ (Ok j, table', xc', mq')
    → (grad grad_t best : List Float) → length grad ≡ j.n → length grad_t ≡ j.n → j.n ≤ length best
    → let rows = take (j.rows * j.n) table' in
    let b : EllBuffers = record { mq = take (j.n * j.n) mq'; xc = take j.n xc'; grad_t = grad_t } in
    Answered j rows (take j.n xc') (feas_answer j.options j.rows rows (job_state j b grad) best)
read_answered bytes table xc mq table' xc' mq' j e grad grad_t best g t room =
    let h = job_sound bytes table xc mq j table' xc' mq' e in
    job_answered j h.0 _ _ grad best (held_slices j table' xc' mq' grad grad_t h.1 g t) room
