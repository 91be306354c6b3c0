-- The program `filterrun` (document 01): all that it prints, as one function of its input. Definitions only.
use Rattle.std.specs.Prelude.{ℕ, List, replicate}
use Rattle.numbers.specs.F64.{0ᶠ}
use Rattle.oracles.specs.Ell.{ell_buffers, fresh_ell}
use Rattle.numbers.specs.Refusal.{◌⨾◌, unless}
use Rattle.drivers.specs.CuttingPlane.{State}
use Rattle.drivers.specs.Job.{FullJob, job_oracle, full_job, job_fault}
use Rattle.drivers.specs.declared.trace.Source.TheVariants.{Only}
use Rattle.drivers.specs.Trace.{refused_text}
use Rattle.drivers.specs.Input.{input_tests}
use Rattle.drivers.specs.Run.{run_text}

-- what the run of a job begins with: its oracle, a new ellipsoid with its matrix and point, and scratch of zeros
unfoldable pub first_state : FullJob → State
first_state f =
    let n = f.job.n in
    record {
      oracle = job_oracle f.job;
      ell = fresh_ell n f.job.kappa;
      buffers = ell_buffers f.matrix f.point (replicate n 0ᶠ);
      grad = replicate n 0ᶠ;
    }

-- the text of its run, from step 0 on
unfoldable pub job_text : FullJob → List ℕ
job_text f = run_text f.job.rows f.table f.job.options.tolerance f.job.options.max_iters 0 (first_state f)

-- a long input is refused before all else; then a job's first fault; else the job is run, since a program with room for 1,024 rows of 32 has room for every job
unfoldable pub program_text : List ℕ → List ℕ
program_text bytes =
    unless (input_tests bytes ⨾ job_fault bytes) (refused_text Only) (job_text (full_job bytes))
