-- A job that `read_job` has read can be run, and its run ends with an answer. Assumes nothing.
use Rattle.numbers.specs.declared.refusal.Fault.{Fault}
use Rattle.std.specs.Prelude.{ℕ, zero, suc, ◌*◌, ◌≤◌, refl, Bool, true, false, ◌&&◌, leb, length, take, replicate, Err, Ok, Result}
use Rattle.std.proofs.Math.Path.{◌≡◌, ap}
use Rattle.std.proofs.Common.{sym, ◌∙◌, zero-mul, one-mul, add-mul, arith, leb-true, length-append, length-take-le}
use mathlib.Core.List.{List, [], ◌∷◌}
use Rattle.std.specs.Float.Ieee.{Float}
use Rattle.numbers.specs.F64.{0ᶠ}
use Rattle.numbers.specs.Pick.{pick}
use Rattle.numbers.specs.laws.Arr.{length_tab}
use Rattle.numbers.specs.laws.Pick.{and_parts}
use Rattle.numbers.specs.Refusal.{unless, At, Sound, Tests}
use Rattle.numbers.specs.laws.Refusal.{both_sound, ask_sound}
use Rattle.oracles.specs.Ell.{EllBuffers, fresh_ell}
use Rattle.oracles.specs.laws.EllCalls.{EllLong, ell_makes}
use Rattle.drivers.specs.Record.{number_at, numbers_at, fields_of, row_count, rows_of, is_row, rows_in, content_of, fronted, place}
use Rattle.drivers.specs.CuttingPlane.{State, check_state}
use Rattle.drivers.specs.CuttingPlaneFeas.{feas_run}
use Rattle.drivers.specs.Job.{FullJob, job_oracle, job_at, full_job_at, job_walk, full_job, job_fault, has_room, room_fault, read_job_tests, read_job_answer}
use Rattle.drivers.specs.laws.Job.{JobSound, sound_job}
use Rattle.drivers.specs.Run.{run_of, new_run_answer, run_state}
use Rattle.drivers.specs.laws.StepSound.{fits_sound}
use Rattle.drivers.specs.laws.RunEnds.{RunEnded, run_ends}
use Rattle.numbers.specs.declared.refusal.Refusal.TheVariants.{Room}
use Rattle.drivers.specs.declared.job.Job.{Job}
use Rattle.drivers.specs.declared.run.Run.{Run}
use Rattle.drivers.specs.Rules.{matrix_place, point_place}
use Rattle.numbers.specs.laws.Over.{length_over, front_over}

-- the slices that a job's numbers are read into
pub record JobHeld (j : Job) (table xc mq : List Float) : Type 0 where
  pub table_long : j.rows * j.n ≤ length table
  pub xc_long : j.n ≤ length xc
  pub mq_long : j.n * j.n ≤ length mq

row_long : (t : Bool) (n : ℕ) (row : List Float) → length row ≡ n → length (pick t row []) ≡ pick t 1 0 * n
unfolding pick
row_long true n row h = h ∙ sym (one-mul n)
row_long false n row h = sym (zero-mul n)

-- as many rows of n numbers as are counted
pub rows_long : (n : ℕ) (bytes fields : List ℕ) → length (rows_of n bytes fields) ≡ row_count bytes fields * n
unfolding rows_of row_count
rows_long n bytes [] = sym (zero-mul n)
rows_long n bytes (at ∷ rest) =
    length-append (pick (is_row bytes at) (numbers_at bytes (content_of bytes at) n) []) (rows_of n bytes rest)
    ∙ omega (arith, row_long (is_row bytes at) n (numbers_at bytes (content_of bytes at) n) (length_tab _ n), rows_long n bytes rest, add-mul (rows_in bytes at) (row_count bytes rest) n)

-- the numbers of a job are as many as it says
pub record FullLong (f : FullJob) : Type 0 where
  pub table_is : length f.table ≡ f.job.rows * f.job.n
  pub point_is : length f.point ≡ f.job.n
  pub matrix_is : length f.matrix ≡ f.job.n * f.job.n

pub full_long : (bytes places : List ℕ) → FullLong (full_job_at bytes places)
unfolding full_job_at job_at
full_long bytes places =
    let n = (job_at bytes places).n in
    record {
      table_is = rows_long n bytes (fields_of bytes);
      point_is = length_tab (λ k. number_at bytes (place places point_place) k) n;
      matrix_is = length_tab (λ k. number_at bytes (place places matrix_place) k) (n * n);
    }

-- what has room holds them
pub room_held : (f : FullJob) (table xc mq : List Float) → FullLong f → has_room f.job (length table) (length xc) (length mq) ≡ true
    → JobHeld f.job (fronted f.table table) (fronted f.point xc) (fronted f.matrix mq)
room_held f table xc mq l h =
    let j = f.job in
    let a = and_parts (leb (j.rows * j.n) (length table) && leb j.n (length xc)) (leb (j.n * j.n) (length mq)) h in
    let b = and_parts (leb (j.rows * j.n) (length table)) (leb j.n (length xc)) a.0 in
    let t = leb-true (j.rows * j.n) (length table) b.0 in
    let x = leb-true j.n (length xc) b.1 in
    let m = leb-true (j.n * j.n) (length mq) a.1 in
    record {
      table_long = rw (length_over table 0 f.table (omega (arith, l.table_is, t))) t;
      xc_long = rw (length_over xc 0 f.point (omega (arith, l.point_is, x))) x;
      mq_long = rw (length_over mq 0 f.matrix (omega (arith, l.matrix_is, m))) m;
    }

-- numbers at the front of a list are its front
pub front_is : (xs out : List Float) (n : ℕ) → length xs ≡ n → take n (fronted xs out) ≡ xs
front_is xs out n h = ap (λ (k : ℕ). take k (fronted xs out)) (sym h) ∙ front_over out xs

-- the front of zeros is zeros
pub zeros_front : (n m : ℕ) → n ≤ m → take n (replicate m 0ᶠ) ≡ replicate n 0ᶠ
zeros_front zero m h = refl
zeros_front (suc n) zero h = absurd (omega (arith, h))
zeros_front (suc n) (suc m) h = ap (λ (r : List Float). 0ᶠ ∷ r) (zeros_front n m (omega arith))

module _ (bytes : List ℕ) (table xc mq : List Float) where
  -- a record without a fault, and slices with room for it
  pub tests_held : read_job_tests bytes table xc mq ≡ Sound
      → let f = full_job bytes in JobSound f.job × JobHeld f.job (fronted f.table table) (fronted f.point xc) (fronted f.matrix mq)
  unfolding full_job_at
  tests_held e =
      let f = full_job bytes in
      let s = both_sound (job_fault bytes) (room_fault f.job (length table) (length xc) (length mq)) e in
      (sound_job bytes s.0, room_held f table xc mq (full_long bytes (job_walk bytes).1) (ask_sound (has_room f.job (length table) (length xc) (length mq)) Room 0 s.1))

  -- A job that is read passes every test of a run, and the slices are long enough for its numbers.
  pub job_sound : (j : Job) (table' xc' mq' : List Float) → read_job_answer bytes table xc mq ≡ (Ok j, table', xc', mq') → JobSound j × JobHeld j table' xc' mq'
  unfolding read_job_answer full_job_at
  job_sound j table' xc' mq' =
      go (full_job bytes) (read_job_tests bytes table xc mq) tests_held
    where
      go : (f : FullJob) (fault : Tests) → (fault ≡ Sound → JobSound f.job × JobHeld f.job (fronted f.table table) (fronted f.point xc) (fronted f.matrix mq))
          → ◌≡◌ {A = (Result Job Fault) × List Float × List Float × List Float}
          (unless fault (λ why place. (At why place, table, xc, mq)) (Ok f.job, fronted f.table table, fronted f.point xc, fronted f.matrix mq)) (Ok j, table', xc', mq')
          → JobSound j × JobHeld j table' xc' mq'
      go f Sound h e =
          let e₀ : Ok f.job ≡ Ok j = ap (λ z. z.0) e in
          let j_is : f.job ≡ j = cc in
          let t_is : fronted f.table table ≡ table' = ap (λ z. z.1) e in
          let x_is : fronted f.point xc ≡ xc' = ap (λ z. z.2) e in
          let m_is : fronted f.matrix mq ≡ mq' = ap (λ z. z.3) e in
          rw (← j_is, ← t_is, ← x_is, ← m_is) (h refl)
      go f (Err fault) h e =
          let e₀ : At fault.why fault.place ≡ Ok j = ap (λ z. z.0) e in
          absurd (let z : ◌≡◌ {A = ℕ} 0 1 = cc in omega arith)

-- ---- its run

-- the run that is made of a job, and all that it moves, with the slices that it is lent
abbrev pub job_run : Job → Run
job_run j =
    record { oracle = job_oracle j; ell = fresh_ell j.n j.kappa; options = j.options; rows = j.rows; niter = 0 }

abbrev pub job_state : Job → EllBuffers → List Float → State
job_state j b grad = run_state (job_run j) b grad

pub run_made : (j : Job) → JobSound j → new_run_answer j ≡ Ok (job_run j)
run_made j h = ap (λ z. run_of j z) (ell_makes j.n j.kappa h.dimension)

-- the lengths of those
pub record JobSlices (j : Job) (table : List Float) (b : EllBuffers) (grad : List Float) : Type 0 where
  pub table_long : length table ≡ j.rows * j.n
  pub long : EllLong j.n b
  pub grad_long : length grad ≡ j.n

-- they are the fronts of the slices that the job was read into, and scratch
pub held_slices : (j : Job) (table xc mq grad grad_t : List Float) → JobHeld j table xc mq → length grad ≡ j.n → length grad_t ≡ j.n
    → JobSlices j (take (j.rows * j.n) table) (record { mq = take (j.n * j.n) mq; xc = take j.n xc; grad_t = grad_t }) grad
held_slices j table xc mq grad grad_t h g t = record {
  table_long = length-take-le (j.rows * j.n) table h.table_long;
  long = record { mq_long = length-take-le (j.n * j.n) mq h.mq_long; xc_long = length-take-le j.n xc h.xc_long; grad_t_long = t };
  grad_long = g;
}

module _ (j : Job) (h : JobSound j) (table : List Float) (b : EllBuffers) (grad : List Float) (l : JobSlices j table b grad) where
  -- so its run is not refused
  pub job_run_sound : check_state j.rows table (job_state j b grad) ≡ Sound
  job_run_sound = fits_sound j.rows table (job_state j b grad) j.n (record {
    ndim_is = refl;
    dimension = h.dimension;
    table_long = l.table_long;
    long = l.long;
    grad_long = l.grad_long;
    bands = h.bands;
    cursors = h.cursors;
  })

  -- nor is any step of it: it ends with an answer, within the job's step limit
  pub job_ends : let left = j.options.max_iters in
      RunEnded j.rows table left 0 (job_state j b grad) (feas_run j.rows table j.options.tolerance left 0 (job_state j b grad))
  job_ends = run_ends j.rows table j.options.tolerance j.options.max_iters 0 (job_state j b grad) job_run_sound
