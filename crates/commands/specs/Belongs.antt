-- `jobfile belongs`: whether an answer belongs to a job, of the bytes of both. Definitions only.
use Rattle.std.specs.Prelude.{ℕ, Bool, List, Float, Option}
use Rattle.numbers.specs.Pick.{pick}
use Rattle.numbers.specs.Refusal.{◌⨾◌, unless}
use Rattle.streams.specs.Input.{of_read}
use Rattle.streams.specs.declared.output.Stream.TheVariants.{Stdout}
use Rattle.drivers.specs.Text.{bytes_of}
use Rattle.drivers.specs.Job.{full_job, job_fault}
use Rattle.drivers.specs.Answer.{answer_at, point_at, answer_walk, answer_fault}
use Rattle.drivers.specs.Belongs.{is_of}
use Rattle.drivers.specs.Input.{input_tests}
use Rattle.drivers.specs.declared.job.Job.{Job}
use Rattle.drivers.specs.declared.trace.Source.TheVariants.{Job as OfJob, Answer as OfAnswer}
use Rattle.commands.specs.Output.{Written, refusal_written, nothing_written}

abbrev pub yes_or_no : Bool → Written
yes_or_no is_so = (Stdout, pick is_so (bytes_of "yes\n") (bytes_of "no\n"))

-- of a job that was read, with its table and its point, and an answer's bytes, which are read with the job's n
unfoldable pub judged_written : Job → List Float → List Float → List ℕ → Written
judged_written j table x bytes =
    let places = (answer_walk bytes).1 in
    unless (input_tests bytes ⨾ answer_fault j.n bytes) (refusal_written OfAnswer) (yes_or_no (is_of j table x (answer_at bytes places) (point_at j.n bytes places)))

-- the job is taken first, whole; then what was read of the answer's file
unfoldable pub belongs_written : List ℕ → Option ℕ → List ℕ → Written
belongs_written job read bytes =
    let f = full_job job in
    unless (input_tests job ⨾ job_fault job) (refusal_written OfJob) (of_read read bytes (judged_written f.job f.table f.point) nothing_written)
