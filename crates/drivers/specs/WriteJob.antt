-- A job as it is written, and its writer (document 02, (a)). Definitions only.
use Rattle.numbers.specs.declared.refusal.Refusal.{Refusal}
use Rattle.std.specs.Prelude.{ℕ, ◌+◌, ◌*◌, Bool, ◌&&◌, List, [], ◌∷◌, ◌++◌, leb, eqb, length, Float, Err, Ok, Result}
use Rattle.numbers.specs.Bits.{le_bytes}
use Rattle.numbers.specs.Arr.{tab, row_of}
use Rattle.numbers.specs.Over.{over}
use Rattle.numbers.specs.declared.refusal.Refusal.TheVariants.{Room}
use Rattle.numbers.specs.Refusal.{◌⨾◌, unless, ask, Tests}
use Rattle.oracles.specs.Table.{table_fits}
use Rattle.oracles.specs.LowpassOracle.{oracle_tests}
use Rattle.drivers.specs.Fields.{Field, record_bytes, number_bytes, short_bytes}
use Rattle.drivers.specs.Job.{FullJob, job_oracle}
use Rattle.drivers.specs.Rules.{n_tag, bands_tag, limits_tag, row_tag, point_tag, cursors_tag, kappa_tag, matrix_tag, settings_tag}
use Rattle.drivers.specs.declared.cutting_plane.Options.{Options}
use Rattle.drivers.specs.declared.job.Job.{Job}

-- a job with the numbers of three slices
abbrev pub with_numbers : Job → List Float → List Float → List Float → FullJob
with_numbers j table point matrix = record { job = j; table = table; point = point; matrix = matrix }

-- ---- its fields: their tags rise, and the rows stand in table order

abbrev pub head_fields : Job → List Field
head_fields j =
    (n_tag, le_bytes 2 j.n)
    ∷ (bands_tag, short_bytes (j.nwpass ∷ j.nwstop ∷ []))
    ∷ (limits_tag, number_bytes (j.lp_sq ∷ j.up_sq ∷ j.sp_sq ∷ []))
    ∷ []

abbrev pub row_field : ℕ → List Float → ℕ → Field
row_field n table i = (row_tag, number_bytes (row_of n table i))

abbrev pub row_fields : ℕ → List Float → ℕ → List Field
row_fields n table rows = tab (row_field n table) rows

-- a step limit of two bytes, and a tolerance
abbrev pub settings_bytes : Options → List ℕ
settings_bytes o = le_bytes 2 o.max_iters ++ number_bytes (o.tolerance ∷ [])

abbrev pub tail_fields : Job → List Float → List Float → List Field
tail_fields j point matrix =
    (point_tag, number_bytes point)
    ∷ (cursors_tag, short_bytes (j.cur1 ∷ j.cur2 ∷ j.cur3 ∷ []))
    ∷ (kappa_tag, number_bytes (j.kappa ∷ []))
    ∷ (matrix_tag, number_bytes matrix)
    ∷ (settings_tag, settings_bytes j.options)
    ∷ []

abbrev pub job_fields : FullJob → List Field
job_fields f = head_fields f.job ++ row_fields f.job.n f.table f.job.rows ++ tail_fields f.job f.point f.matrix

abbrev pub job_bytes : FullJob → List ℕ
job_bytes f = record_bytes (job_fields f)

-- how many bytes these are (`job_long`), by n and the row count
abbrev pub job_size : ℕ → ℕ → ℕ
job_size n rows = 78 + 8 * n + 8 * (n * n) + rows * (3 + 8 * n)

-- ---- `write_job`

-- its slices have the lengths that n and the row count say
abbrev pub numbers_fit : FullJob → Bool
numbers_fit f = table_fits f.job.n f.job.rows f.table f.point && eqb (length f.matrix) (f.job.n * f.job.n)

-- refusals 1, 2, 3 and 4, so that what is written is read again; then 11
abbrev pub write_job_tests : FullJob → List ℕ → Tests
write_job_tests f out = oracle_tests (job_oracle f.job) f.job.n f.job.rows (numbers_fit f) ⨾ ask (leb (length (job_bytes f)) (length out)) Room

unfoldable pub write_job_answer : FullJob → List ℕ → Result ℕ Refusal × List ℕ
unfolding over
write_job_answer f out =
    let bytes = job_bytes f in
    unless (write_job_tests f out) (λ why place. (Err why, out)) (Ok (length bytes), over out 0 bytes)
