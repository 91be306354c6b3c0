-- `jobfile answer`: the record of the answer that a job's run ends with. Definitions only.
use Rattle.numbers.specs.declared.refusal.Refusal.{Refusal}
use Rattle.drivers.specs.declared.answer.Answer.{Answer}
use Rattle.std.specs.Prelude.{ℕ, List, [], Err, Ok, Result}
use Rattle.numbers.specs.Refusal.{◌⨾◌, unless}
use Rattle.streams.specs.declared.output.Stream.TheVariants.{Stdout}
use Rattle.drivers.specs.CuttingPlane.{State}
use Rattle.drivers.specs.CuttingPlaneFeas.{feas_run}
use Rattle.drivers.specs.Job.{FullJob, full_job, job_fault}
use Rattle.drivers.specs.Answer.{answer_bytes}
use Rattle.drivers.specs.Input.{input_tests}
use Rattle.drivers.specs.Program.{first_state}
use Rattle.drivers.specs.declared.trace.Source.TheVariants.{Only}
use Rattle.commands.specs.Output.{Written, refusal_written}

-- the steps of a job's run, from 0 on: the answer, and the state that they leave
abbrev pub job_answer : FullJob → Result Answer Refusal × State
job_answer f = feas_run f.job.rows f.table f.job.options.tolerance f.job.options.max_iters 0 (first_state f)

-- its record, with the centre as the point that was found; no job's run is refused (`job_ends`)
abbrev pub answer_record : Result Answer Refusal → State → List ℕ
answer_record (Ok a) s = answer_bytes a s.buffers.xc
answer_record (Err why) s = []

-- refused as `filterrun` refuses
unfoldable pub answer_written : List ℕ → Written
answer_written bytes =
    let r = job_answer (full_job bytes) in
    unless (input_tests bytes ⨾ job_fault bytes) (refusal_written Only) (Stdout, answer_record r.0 r.1)
