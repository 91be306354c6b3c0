-- Laws of File: what is filed of the slices is what the definition says of the bytes. Assumes nothing.
use Rattle.std.specs.Prelude.{ℕ, ◌*◌, ◌≡◌, List, length, take, Float}
use Rattle.std.proofs.Common.{◌∙◌, length-take-le}
use Rattle.oracles.specs.LowpassOracle.{start_oracle}
use Rattle.streams.specs.declared.output.Stream.TheVariants.{Stdout}
use Rattle.drivers.specs.Job.{full_job_at, job_walk, full_job}
use Rattle.drivers.specs.WriteJob.{with_numbers, job_bytes}
use Rattle.drivers.specs.laws.Job.{JobSound}
use Rattle.drivers.specs.laws.JobRuns.{FullLong, full_long, front_is}
use Rattle.drivers.specs.declared.job.Job.{Job}
use Rattle.drivers.specs.declared.trace.Source.TheVariants.{Only}
use Rattle.commands.specs.Output.{Written}
use Rattle.commands.specs.File.{with_limits, file_written}
use Rattle.commands.specs.declared.arguments.Limits.{Limits}
use Rattle.commands.specs.laws.Taken.{JobIs, goes_on, sound_held}

-- New limits leave a job sound.
pub limits_sound : (l : Limits) (j : Job) → JobSound j → JobSound (with_limits l j)
unfolding start_oracle
limits_sound l j h = record { dimension = h.dimension; bands = h.bands; cursors = h.cursors }

-- the fronts of the arrays of a program hold a job
pub fronts_long : (j : Job) → JobSound j → (table xc mq : List Float) → length table ≡ 32768 → length xc ≡ 32 → length mq ≡ 1024
    → FullLong (with_numbers j (take (j.rows * j.n) table) (take j.n xc) (take (j.n * j.n) mq))
fronts_long j h table xc mq t x m =
    let held = sound_held j h table xc mq t x m in
    record {
      table_is = length-take-le (j.rows * j.n) table held.table_long;
      point_is = length-take-le j.n xc held.xc_long;
      matrix_is = length-take-le (j.n * j.n) mq held.mq_long;
    }

-- what is made of a job with the numbers at the fronts of its slices
abbrev pub fronts_filed : Job → List Float → List Float → List Float → Written
fronts_filed j table xc mq = (Stdout, job_bytes (with_numbers j (take (j.rows * j.n) table) (take j.n xc) (take (j.n * j.n) mq)))

pub taken_filed : (l : Limits) (bytes : List ℕ) (table xc mq : List Float) (out : List ℕ) (j : Job) (table' xc' mq' : List Float) (out' : List ℕ)
    → length table ≡ 32768 → length xc ≡ 32 → length mq ≡ 1024 → JobIs Only bytes table xc mq out j table' xc' mq' out'
    → fronts_filed (with_limits l j) table' xc' mq' ≡ file_written l bytes
unfolding file_written full_job_at
taken_filed l bytes table xc mq out j table' xc' mq' out' t x m is =
    let f = full_job bytes in
    let n = f.job.n in
    let long = full_long bytes (job_walk bytes).1 in
    rw (is.job_is, is.table_is, is.xc_is, is.mq_is)
    (λ i. (
      Stdout,
      job_bytes (with_numbers (with_limits l f.job) (front_is f.table table (f.job.rows * n) long.table_is i) (front_is f.point xc n long.point_is i)
          (front_is f.matrix mq (n * n) long.matrix_is i)),
    ))
    ∙ goes_on Only bytes table xc mq out t x m is _
