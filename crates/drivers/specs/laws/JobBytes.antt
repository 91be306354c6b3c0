-- Laws of a job's bytes: how many they are, and that `write_job` puts them where there is room. Assumes nothing.
use Rattle.std.specs.Prelude.{ℕ, zero, suc, ◌+◌, ◌*◌, ◌≤◌, ◌≡◌, refl, true, List, [], ◌∷◌, ◌++◌, length, Ok}
use Rattle.std.proofs.Common.{eqb, sym, ◌∙◌, arith, zero-mul, suc-mul, mul-le-mul, le-leb, eq-eqb, eqb-true}
use Rattle.numbers.specs.Arr.{tab, row_of}
use Rattle.numbers.specs.Over.{over}
use Rattle.numbers.specs.Refusal.{Sound}
use Rattle.numbers.specs.laws.Pick.{and_parts}
use Rattle.numbers.specs.laws.Refusal.{held, at_next, accepts}
use Rattle.oracles.specs.laws.OracleAfter.{row_length}
use Rattle.drivers.specs.Text.{joined}
use Rattle.drivers.specs.Job.{FullJob}
use Rattle.drivers.specs.WriteJob.{head_fields, row_field, row_fields, tail_fields, job_fields, job_bytes, job_size, numbers_fit, write_job_tests, write_job_answer}
use Rattle.drivers.specs.laws.OneField.{length_numbers}
use Rattle.drivers.specs.laws.Fields.{total, length_record, total_append}
use Rattle.drivers.specs.laws.Job.{JobSound, n_to, rows_to}
use Rattle.drivers.specs.laws.JobRuns.{FullLong}
use Rattle.numbers.specs.Bits.{le_bytes}

-- slices of the right lengths
pub numbers_long : (f : FullJob) → numbers_fit f ≡ true → FullLong f
numbers_long f h =
    let j = f.job in
    let a = and_parts _ (eqb (length f.matrix) (j.n * j.n)) h in
    let b = and_parts (eqb (length f.table) (j.rows * j.n)) _ a.0 in
    record { table_is = eqb-true _ _ b.0; point_is = eqb-true _ _ b.1; matrix_is = eqb-true _ _ a.1 }

module _ (f : FullJob) (l : FullLong f) where
  abbrev n : ℕ
  n = f.job.n

  -- the rows before row k
  rows_total : (k : ℕ) → k ≤ f.job.rows → total (row_fields n f.table k) ≡ k * (3 + 8 * n)
  unfolding tab total
  rows_total zero h = sym (zero-mul (3 + 8 * n))
  rows_total (suc k) h =
      let row = row_of n f.table k in
      total_append (row_fields n f.table k) (row_field n f.table k ∷ [])
      ∙ omega (arith, length_numbers row, row_length n f.job.rows f.table k l.table_is (omega arith), rows_total k (omega arith), suc-mul k (3 + 8 * n))

  head_total : total (head_fields f.job) ≡ 39
  unfolding total joined le_bytes
  head_total = refl

  tail_total : total (tail_fields f.job f.point f.matrix) ≡ 39 + 8 * n + 8 * (n * n)
  unfolding total joined le_bytes
  tail_total = omega (arith, length_numbers f.point, length_numbers f.matrix, l.point_is, l.matrix_is)

  -- how many bytes a job's record has
  pub job_long : length (job_bytes f) ≡ job_size n f.job.rows
  job_long =
      let h = head_fields f.job in
      let r = row_fields n f.table f.job.rows in
      let t = tail_fields f.job f.point f.matrix in
      length_record (job_fields f) ∙ omega (arith, total_append (h ++ r) t, total_append h r, head_total, rows_total f.job.rows (omega arith), tail_total)

  module _ (h : JobSound f.job) where
    numbers_held : numbers_fit f ≡ true
    numbers_held = rw (eq-eqb (length f.table) (f.job.rows * n) l.table_is, eq-eqb (length f.point) n l.point_is, eq-eqb (length f.matrix) (n * n) l.matrix_is) refl

    pub job_most : length (job_bytes f) ≤ 273742
    job_most =
        let a : 3 + 8 * n ≤ 259 = omega (arith, n_to f.job h) in
        omega (arith, job_long, n_to f.job h, mul-le-mul (n_to f.job h) (n_to f.job h), mul-le-mul (rows_to f.job h) a)

    sound_tests : (out : List ℕ) → length (job_bytes f) ≤ length out → Sound ≡ write_job_tests f out
    sound_tests out room =
        at_next (at_next (at_next (held _ _ h.dimension) (held _ _ numbers_held)) (at_next (held _ _ h.bands) (held _ _ h.cursors))) (held _ _ (le-leb _ (length out) room))

    -- where there is room, they stand at the front
    pub write_job_front : (out : List ℕ) → length (job_bytes f) ≤ length out → write_job_answer f out ≡ (Ok (length (job_bytes f)), over out 0 (job_bytes f))
    unfolding over write_job_answer
    write_job_front out room = sym (accepts _ _ (write_job_tests f out) (sound_tests out room) refl)
