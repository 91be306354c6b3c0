-- Laws of Answer: the driver's answer over a job's slices is the record that the command writes. Assumes nothing.
use Rattle.drivers.specs.Trace.{Text, text_in}
use Rattle.std.specs.Prelude.{ℕ, ◌*◌, ◌≤◌, ◌≡◌, true, List, [], length, take, replicate, Float, Err, Ok, Result}
use Rattle.std.proofs.Common.{sym, ap, ◌∙◌, take_all, arith}
use Rattle.numbers.specs.F64.{0ᶠ}
use Rattle.numbers.specs.declared.refusal.Refusal.{Refusal}
use Rattle.oracles.specs.Ell.{EllBuffers, ell_buffers, fresh_ell, new_ell_answer}
use Rattle.oracles.specs.laws.EllCalls.{ell_makes}
use Rattle.oracles.specs.declared.ell.Ell.{Ell}
use Rattle.oracles.specs.declared.lowpass_oracle.LowpassOracle.{LowpassOracle}
use Rattle.streams.specs.declared.output.Stream.TheVariants.{Stdout, Stderr}
use Rattle.drivers.specs.CuttingPlane.{State, state_of, kept}
use Rattle.drivers.specs.CuttingPlaneFeas.{feas_run, is_found, feas_answer}
use Rattle.drivers.specs.Record.{fronted}
use Rattle.drivers.specs.Job.{FullJob, job_oracle, full_job_at, job_walk, full_job}
use Rattle.drivers.specs.Input.{take_job_answer}
use Rattle.drivers.specs.Answer.{answer_bytes}
use Rattle.drivers.specs.Program.{first_state}
use Rattle.drivers.specs.laws.Job.{JobSound}
use Rattle.drivers.specs.laws.JobRuns.{JobSlices, FullLong, full_long, job_state, front_is}
use Rattle.drivers.specs.laws.FoundFeasible.{job_call, found_point}
use Rattle.drivers.specs.laws.AnswerBytes.{same_bytes}
use Rattle.drivers.specs.declared.answer.Answer.{Answer}
use Rattle.drivers.specs.declared.job.Job.{Job}
use Rattle.drivers.specs.declared.trace.Source.TheVariants.{Only}
use Rattle.commands.specs.Output.{Written}
use Rattle.commands.specs.Answer.{job_answer, answer_record, answer_written}
use Rattle.commands.specs.laws.Taken.{JobIs, goes_on, job_refused_is}

-- what is written of the run of a job in slices of its own lengths ..
abbrev pub run_answer_of : Job → List Float → EllBuffers → List Float → Result Answer Refusal × State
run_answer_of j table b grad = feas_run j.rows table j.options.tolerance j.options.max_iters 0 (job_state j b grad)

abbrev pub run_written : Job → List Float → EllBuffers → List Float → Written
run_written j table b grad = let r = run_answer_of j table b grad in (Stdout, answer_record r.0 r.1)

-- .. and in the fronts of longer ones, over scratch of zeros
abbrev pub fronts_written : Job → List Float → List Float → List Float → Written
fronts_written j table xc mq =
    let n = j.n in
    run_written j (take (j.rows * n) table) (ell_buffers (take (n * n) mq) (take n xc) (replicate n 0ᶠ)) (replicate n 0ᶠ)

-- the driver's call over the job's oracle and its new ellipsoid
pub call_of : (j : Job) (table : List Float) (b : EllBuffers) (grad best : List Float) (o : LowpassOracle) (e : Ell) → o ≡ job_oracle j → e ≡ fresh_ell j.n j.kappa
    → {r : Result Answer Refusal × State × List Float} → r ≡ feas_answer j.options j.rows table (state_of o e b.mq b.xc grad b.grad_t) best
    → r ≡ feas_answer j.options j.rows table (job_state j b grad) best
call_of j table b grad best o e o_is e_is h = h ∙ (λ i. feas_answer j.options j.rows table (state_of (o_is i) (e_is i) b.mq b.xc grad b.grad_t) best)

module _ (j : Job) (h : JobSound j) (table : List Float) (b : EllBuffers) (grad best : List Float) (l : JobSlices j table b grad) (long : length best ≡ j.n) where
  room : j.n ≤ length best
  room = omega (arith, long)

  -- the call's answer and its point, as a record
  pub ended_record : (r : (Result Answer Refusal)) (s : State) (best' : List Float) → (r, s, best') ≡ feas_answer j.options j.rows table (job_state j b grad) best → length best' ≡ j.n
      → (a : Answer) → r ≡ Ok a → answer_bytes a best' ≡ answer_record (run_answer_of j table b grad).0 (run_answer_of j table b grad).1
  ended_record r s best' e long' a ra =
      let f = e ∙ job_call j h table b grad best l room in
      let r_is : r ≡ (run_answer_of j table b grad).0 = ap (λ z. z.0) f in
      let best_is : best' ≡ kept (is_found (run_answer_of j table b grad).0) (run_answer_of j table b grad).1.buffers.xc best = ap (λ z. z.2) f in
      let point : a.found ≡ true → best' ≡ (run_answer_of j table b grad).1.buffers.xc =
      λ t. sym (take_all j.n best' (omega (arith, long'))) ∙ ap (take j.n) best_is ∙ found_point j h table b grad best l room (ap is_found (sym r_is ∙ ra) ∙ t) in
      same_bytes a best' (run_answer_of j table b grad).1.buffers.xc point
      ∙ ap (λ (z : (Result Answer Refusal)). answer_record z (run_answer_of j table b grad).1) (sym ra ∙ r_is)

  -- no record where the call is refused, which a sound job's is not
  pub not_ended : (r : (Result Answer Refusal)) (s : State) (best' : List Float) → (r, s, best') ≡ feas_answer j.options j.rows table (job_state j b grad) best
      → (why : Refusal) → r ≡ Err why → [] ≡ answer_record (run_answer_of j table b grad).0 (run_answer_of j table b grad).1
  not_ended r s best' e why k = ap (λ (z : (Result Answer Refusal)). answer_record z (run_answer_of j table b grad).1) (sym k ∙ ap (λ z. z.0) (e ∙ job_call j h table b grad best l room))

-- of the numbers of a record, at the fronts of the slices that they were read into, it is the job's own run
full_run : (f : FullJob) (table xc mq : List Float) → FullLong f → fronts_written f.job (fronted f.table table) (fronted f.point xc) (fronted f.matrix mq) ≡ (let r = job_answer f in (Stdout, answer_record r.0 r.1))
unfolding first_state
full_run f table xc mq l =
    let n = f.job.n in
    let z : List Float = replicate n 0ᶠ in
    λ i. run_written f.job (front_is f.table table (f.job.rows * n) l.table_is i) (ell_buffers (front_is f.matrix mq (n * n) l.matrix_is i) (front_is f.point xc n l.point_is i) z) z

pub taken_written : (bytes : List ℕ) (table xc mq : List Float) (out : List ℕ) (j : Job) (table' xc' mq' : List Float) (out' : List ℕ) → length table ≡ 32768 → length xc ≡ 32 → length mq ≡ 1024
    → JobIs Only bytes table xc mq out j table' xc' mq' out' → fronts_written j table' xc' mq' ≡ answer_written bytes
unfolding answer_written full_job_at
taken_written bytes table xc mq out j table' xc' mq' out' t x m is =
    rw (is.job_is, is.table_is, is.xc_is, is.mq_is) (full_run (full_job bytes) table xc mq (full_long bytes (job_walk bytes).1))
    ∙ goes_on Only bytes table xc mq out t x m is _

-- a record that is not taken
pub refused_written : (bytes : List ℕ) (table xc mq : List Float) (out : List ℕ) → length table ≡ 32768 → length xc ≡ 32 → length mq ≡ 1024 → 128 ≤ length out
    → (text : Text) (table' xc' mq' : List Float) (out' : List ℕ) → (Err text, table', xc', mq', out') ≡ take_job_answer Only bytes table xc mq out → (Stderr, text_in text out') ≡ answer_written bytes
unfolding answer_written
refused_written bytes table xc mq out t x m room text table' xc' mq' out' e = job_refused_is Only bytes table xc mq out t x m room text table' xc' mq' out' e _

-- ---- the ellipsoid of a sound job is made

module _ (j : Job) (h : JobSound j) (r : (Result Ell Refusal)) (r_is : r ≡ new_ell_answer j.n j.kappa) where
  made_is : r ≡ Ok (fresh_ell j.n j.kappa)
  made_is = r_is ∙ ell_makes j.n j.kappa h.dimension

  pub made_fresh : (e : Ell) → r ≡ Ok e → e ≡ fresh_ell j.n j.kappa
  made_fresh e k =
      let m = made_is in
      cc

  pub made_always : (why : Refusal) → r ≡ Err why → ⊥
  made_always why k =
      let m = made_is in
      let z : ◌≡◌ {A = ℕ} 0 1 = cc in
      omega arith
