-- The calls that the program `filterrun` makes print what its definition says. Assumes nothing.
use Rattle.drivers.specs.declared.job.Job.{Job}
use Rattle.std.specs.Prelude.{ℕ, suc, ◌+◌, ◌*◌, ◌-◌, ◌≤◌, ◌<◌, ◌≡◌, refl, Err, Ok, Result}
use Rattle.std.proofs.Common.{sym, ◌∙◌, subst, arith, le-leb}
use Rattle.std.proofs.Math.Path.{ap}
use mathlib.Core.List.{List}
use Rattle.std.proofs.Math.ListN.{length, take, replicate, length-replicate}
use Rattle.std.specs.Float.Ieee.{Float}
use Rattle.numbers.specs.F64.{0ᶠ}
use Rattle.numbers.specs.declared.refusal.Refusal.{Refusal}
use Rattle.numbers.specs.Refusal.{◌⨾◌, Sound}
use Rattle.numbers.specs.laws.Refusal.{held, both_sound, refuses, accepts, by_tests}
use Rattle.oracles.specs.Ell.{EllBuffers}
use Rattle.drivers.specs.Record.{fronted}
use Rattle.drivers.specs.Job.{FullJob, job_oracle, options_of, job_at, full_job_at, job_walk, full_job, job_fault}
use Rattle.drivers.specs.laws.Job.{JobSound, sound_job}
use Rattle.drivers.specs.laws.Input.{room_for_all, own_faults}
use Rattle.drivers.specs.Trace.{refused_text, text_room, printed, Text, text_in}
use Rattle.drivers.specs.Input.{input_tests, with_slices, take_job_tests, take_job_answer}
use Rattle.drivers.specs.Run.{new_run_answer, opened_run, opened_taken, run_text, open_answer}
use Rattle.numbers.specs.laws.Over.{front_over}
use Rattle.drivers.specs.laws.Trace.{calls_print, printed_by}
use Rattle.drivers.specs.laws.Calls.{calls_enough, run_all_text}
use Rattle.drivers.specs.laws.JobRuns.{JobHeld, FullLong, full_long, room_held, tests_held, held_slices, job_run, job_run_sound, run_made, front_is}
use Rattle.drivers.specs.Program.{first_state, job_text, program_text}
use Rattle.drivers.specs.declared.trace.Source.TheVariants.{Only}
use Rattle.drivers.specs.declared.run.Run.{Run}

-- ---- what is printed by `open`, and then by calls of `Run::next`

-- what is opened of what was taken
abbrev opened : Result Job Text × List Float × List Float × List Float × List ℕ → Result Run Text × List Float × List Float × List Float × List ℕ
opened t = with_slices t.1 t.2 t.3 (opened_taken t.4 t.0)

-- what is printed after `open` has answered, by so many calls of `next` at most
abbrev pub opened_text : ℕ → Result Run Text → List Float → List Float → List Float → List ℕ → List ℕ
opened_text calls (Err text) table xc mq out = text_in text out
opened_text calls (Ok run) table xc mq out =
    let n = run.ell.ndim in
    printed_by calls run (take (run.rows * n) table) (record { mq = take (n * n) mq; xc = take n xc; grad_t = replicate n 0ᶠ }) (replicate n 0ᶠ) out

abbrev pub calls_text : ℕ → Result Run Text × List Float × List Float × List Float × List ℕ → List ℕ
calls_text calls r = opened_text calls r.0 r.1 r.2 r.3 r.4

-- a run's numbers stand at the fronts of the slices that they were read into
pub record RunHeld (run : Run) (table xc mq : List Float) : Type 0 where
  pub table_long : run.rows * run.ell.ndim ≤ length table
  pub xc_long : run.ell.ndim ≤ length xc
  pub mq_long : run.ell.ndim * run.ell.ndim ≤ length mq

-- a text that is printed where there is room stands at the front
pub printed_front : (text out : List ℕ) → 128 ≤ length out → text_in (printed text out).0 (printed text out).1 ≡ text
unfolding printed
printed_front text out h =
    ap (λ (r : Text × List ℕ). text_in r.0 r.1) (sym (accepts _ _ (text_room out) (held _ _ (le-leb 128 (length out) h)) refl)) ∙ front_over out text

-- the step limit has 16 bits
limit_small : (bytes places : List ℕ) → (job_at bytes places).options.max_iters < 65536
unfolding options_of job_at
limit_small bytes places = omega arith

-- equal slices, equal texts; a run at step 0 has all its steps left
run_text_is : (rows : ℕ) (o : _) (e : _) (tolerance : Float) (m : ℕ) (grad grad_t : List Float) {table table' mq mq' xc xc' : List Float} → table ≡ table' → mq ≡ mq' → xc ≡ xc'
    → run_text rows table tolerance (m - 0) 0 (record { oracle = o; ell = e; buffers = record { mq = mq; xc = xc; grad_t = grad_t }; grad = grad })
    ≡ run_text rows table' tolerance m 0 (record { oracle = o; ell = e; buffers = record { mq = mq'; xc = xc'; grad_t = grad_t }; grad = grad })
run_text_is rows o e tolerance m grad grad_t t q x =
    let z : m - 0 ≡ m = omega arith in
    λ i. run_text rows (t i) tolerance (z i) 0 (record { oracle = o; ell = e; buffers = record { mq = q i; xc = x i; grad_t = grad_t }; grad = grad })

module _ (calls : ℕ) (enough : 65536 ≤ calls) (bytes : List ℕ) (out : List ℕ) (room : 128 ≤ length out) where
  -- the run of a sound job
  sound_prints : (f : FullJob) (table xc mq : List Float) → FullLong f → f.job.options.max_iters < 65536
      → JobSound f.job → JobHeld f.job (fronted f.table table) (fronted f.point xc) (fronted f.matrix mq)
      → opened_text calls (Ok (job_run f.job)) (fronted f.table table) (fronted f.point xc) (fronted f.matrix mq) out ≡ job_text f
  unfolding first_state job_text
  sound_prints f table xc mq l small h held =
      let j = f.job in
      let n = j.n in
      let zeros : List Float = replicate n 0ᶠ in
      let rows = take (j.rows * n) (fronted f.table table) in
      let b : EllBuffers = record { mq = take (n * n) (fronted f.matrix mq); xc = take n (fronted f.point xc); grad_t = zeros } in
      let long : length zeros ≡ n = length-replicate n 0ᶠ in
      let sound = job_run_sound j h rows b zeros (held_slices j _ _ _ zeros zeros held long long) in
      calls_print calls (job_run j) rows b zeros out sound room (omega arith)
      ∙ run_text_is j.rows (job_oracle j) (job_run j).ell j.options.tolerance j.options.max_iters zeros zeros
      (front_is f.table table (j.rows * n) l.table_is) (front_is f.matrix mq (n * n) l.matrix_is) (front_is f.point xc n l.point_is)

  -- Whatever the input, a program with this room prints its text. 65,536 calls of `next` are more than any step limit, so enough.
  pub program_prints : (table xc mq : List Float) → length table ≡ 32768 → length xc ≡ 32 → length mq ≡ 1024 → calls_text calls (open_answer bytes table xc mq out) ≡ program_text bytes
  unfolding take_job_answer open_answer program_text full_job_at
  program_prints table xc mq t x m =
      let f = full_job bytes in
      let own = own_faults bytes table xc mq t x m in
      let l = full_long bytes (job_walk bytes).1 in
      by_tests (λ (r : Result Job Text × List Float × List Float × List Float × List ℕ). calls_text calls (opened r) ≡ program_text bytes) (take_job_tests bytes table xc mq) _ _
      (λ why place e. printed_front (refused_text Only why place) out room ∙ refuses _ _ (input_tests bytes ⨾ job_fault bytes) (sym e ∙ own) refl)
      (λ e.
      let s : job_fault bytes ≡ Sound = (both_sound (input_tests bytes) (job_fault bytes) (sym own ∙ e)).1 in
      let h = sound_job bytes s in
      ap (λ z. calls_text calls (with_slices (fronted f.table table) (fronted f.point xc) (fronted f.matrix mq) (opened_run out z))) (run_made f.job h)
      ∙ sound_prints f table xc mq l (limit_small bytes (job_walk bytes).1) h (room_held f table xc mq l (room_for_all bytes table xc mq t x m s))
      ∙ accepts _ _ (input_tests bytes ⨾ job_fault bytes) (sym e ∙ own) refl)

-- Its two ways. The answer of `open` is a line that refuses the job ..
pub refused_prints : (bytes : List ℕ) (table xc mq table' xc' mq' : List Float) (out out' : List ℕ) (k : ℕ) → length table ≡ 32768 → length xc ≡ 32 → length mq ≡ 1024
    → 128 ≤ length out → open_answer bytes table xc mq out ≡ (Err (Ok k), table', xc', mq', out') → take k out' ≡ program_text bytes
refused_prints bytes table xc mq table' xc' mq' out out' k t x m room e =
    sym (ap (calls_text 65536) e) ∙ program_prints 65536 (omega arith) bytes out room table xc mq t x m

-- .. or a run, whose calls print it.
pub run_prints_program : (bytes : List ℕ) (table xc mq table' xc' mq' : List Float) (out out' : List ℕ) (run : Run) → length table ≡ 32768 → length xc ≡ 32
    → length mq ≡ 1024 → 128 ≤ length out → open_answer bytes table xc mq out ≡ (Ok run, table', xc', mq', out')
    → (calls : ℕ) → 65536 ≤ calls
    → let n = run.ell.ndim in
    let zeros = replicate n 0ᶠ in
    printed_by calls run (take (run.rows * n) table') (record { mq = take (n * n) mq'; xc = take n xc'; grad_t = zeros }) zeros out' ≡ program_text bytes
run_prints_program bytes table xc mq table' xc' mq' out out' run t x m room e calls enough =
    sym (ap (calls_text calls) e) ∙ program_prints calls enough bytes out room table xc mq t x m

-- So do all of its calls, and no more can be made.
pub run_all_prints : (bytes : List ℕ) (table xc mq table' xc' mq' : List Float) (out out' : List ℕ) (run : Run) → length table ≡ 32768 → length xc ≡ 32
    → length mq ≡ 1024 → 128 ≤ length out → open_answer bytes table xc mq out ≡ (Ok run, table', xc', mq', out')
    → let n = run.ell.ndim in
    let zeros = replicate n 0ᶠ in
    run_all_text run (take (run.rows * n) table') (record { mq = take (n * n) mq'; xc = take n xc'; grad_t = zeros }) zeros out' ≡ program_text bytes
run_all_prints bytes table xc mq table' xc' mq' out out' run t x m room e =
    let calls = 65536 + suc run.options.max_iters in
    calls_enough _ calls run _ _ _ out' (omega arith) (omega arith)
    ∙ run_prints_program bytes table xc mq table' xc' mq' out out' run t x m room e calls (omega arith)

-- Given room, `open` always goes one of these two ways: it never ends without a line.
abbrev Speaks : Result Run Text → Type 0
Speaks (Ok run) = Unit {0}
Speaks (Err (Ok k)) = Unit {0}
Speaks (Err (Err why)) = ⊥

printed_speaks : (text out : List ℕ) → 128 ≤ length out → Speaks (Err (printed text out).0)
unfolding printed
printed_speaks text out h = subst (λ (r : Text × List ℕ). Speaks (Err r.0)) (accepts _ _ (text_room out) (held _ _ (le-leb 128 (length out) h)) refl) tt

run_speaks : (r : (Result Run Refusal)) (out : List ℕ) → 128 ≤ length out → Speaks (opened_run out r).0
run_speaks (Ok run) out h = tt
run_speaks (Err why) out h = printed_speaks (refused_text Only why 0) out h

pub open_speaks : (bytes : List ℕ) (table xc mq : List Float) (out : List ℕ) → 128 ≤ length out → (why : Refusal) → (open_answer bytes table xc mq out).0 ≡ Err (Err why) → ⊥
unfolding take_job_answer open_answer
open_speaks bytes table xc mq out h why e =
    subst Speaks e
    (by_tests (λ (r : Result Job Text × List Float × List Float × List Float × List ℕ). Speaks (opened r).0) (take_job_tests bytes table xc mq) _ _
    (λ w place _. printed_speaks (refused_text Only w place) out h)
    (λ _. run_speaks (new_run_answer (full_job bytes).job) out h))

-- A run that goes has its numbers at the fronts of the slices.
abbrev Held : Result Run Text × List Float × List Float × List Float × List ℕ → Type 0
Held (Ok run, table, xc, mq, out) = RunHeld run table xc mq
Held (Err text, table, xc, mq, out) = Unit {0}

pub open_held : (bytes : List ℕ) (table xc mq : List Float) (out : List ℕ) (run : Run) (table' xc' mq' : List Float) (out' : List ℕ)
    → open_answer bytes table xc mq out ≡ (Ok run, table', xc', mq', out') → RunHeld run table' xc' mq'
unfolding take_job_answer open_answer
open_held bytes table xc mq out run table' xc' mq' out' e =
    let f = full_job bytes in
    subst Held e
    (by_tests (λ (r : Result Job Text × List Float × List Float × List Float × List ℕ). Held (opened r)) (take_job_tests bytes table xc mq) _ _ (λ why place _. tt)
    (λ s.
    let h = tests_held bytes table xc mq (both_sound (input_tests bytes) _ s).1 in
    subst (λ z. Held (with_slices (fronted f.table table) (fronted f.point xc) (fronted f.matrix mq) (opened_run out z))) (sym (run_made f.job h.0))
    (record { table_long = h.1.table_long; xc_long = h.1.xc_long; mq_long = h.1.mq_long })))
