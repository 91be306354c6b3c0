-- `jobfile file` and `jobfile limits`: a job's record as the job writer makes it, with the limits that are given. Definitions only.
use Rattle.std.specs.Prelude.{ℕ, List}
use Rattle.std.specs.Option.{unwrap_or}
use Rattle.numbers.specs.Refusal.{◌⨾◌, unless}
use Rattle.streams.specs.declared.output.Stream.TheVariants.{Stdout}
use Rattle.drivers.specs.Job.{FullJob, full_job, job_fault}
use Rattle.drivers.specs.WriteJob.{job_bytes}
use Rattle.drivers.specs.Input.{input_tests}
use Rattle.drivers.specs.declared.job.Job.{Job}
use Rattle.drivers.specs.declared.trace.Source.TheVariants.{Only}
use Rattle.commands.specs.Output.{Written, refusal_written}
use Rattle.commands.specs.declared.arguments.Limits.{Limits}

-- a job with these limits, its own where there is none
abbrev pub with_limits : Limits → Job → Job
with_limits l j = record j { lp_sq = unwrap_or l.lp j.lp_sq; up_sq = unwrap_or l.up j.up_sq; sp_sq = unwrap_or l.sp j.sp_sq }

-- and with its numbers
abbrev pub limited : Limits → FullJob → FullJob
limited l f = record f { job = with_limits l f.job }

-- refused as `filterrun` refuses
unfoldable pub file_written : Limits → List ℕ → Written
file_written limits bytes =
    unless (input_tests bytes ⨾ job_fault bytes) (refusal_written Only) (Stdout, job_bytes (limited limits (full_job bytes)))
