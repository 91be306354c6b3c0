-- A program's input, a record of at most 65,536 bytes (document 01, "The program `filterrun`"): what is read of it, or the line that refuses it. Definitions only.
use Rattle.drivers.specs.declared.answer.Answer.{Answer}
use Rattle.drivers.specs.declared.job.Job.{Job}
use Rattle.std.specs.Prelude.{ℕ, List, leb, length, Float, Err, Ok, Result}
use Rattle.numbers.specs.Refusal.{◌⨾◌, unless, ask_at, Tests}
use Rattle.numbers.specs.declared.refusal.Refusal.TheVariants.{Room}
use Rattle.drivers.specs.Record.{fronted}
use Rattle.drivers.specs.Job.{full_job, read_job_tests}
use Rattle.drivers.specs.Answer.{answer_at, point_at, answer_walk, read_answer_tests}
use Rattle.drivers.specs.Trace.{refused_line_answer, Text}
use Rattle.drivers.specs.declared.trace.Source.{Source}
use Rattle.drivers.specs.declared.trace.Source.TheVariants.{Answer as OfAnswer}

-- more bytes are refused before all else
abbrev pub longest : ℕ
longest = 65536

abbrev pub input_tests : List ℕ → Tests
input_tests bytes = ask_at longest (leb (length bytes) longest) Room

-- what an answer leaves in `out`, with the three slices
abbrev pub with_slices : {A : Type 0} → List Float → List Float → List Float → A × List ℕ → A × List Float × List Float × List Float × List ℕ
with_slices table xc mq r = (r.0, table, xc, mq, r.1)

-- ---- a job

abbrev pub take_job_tests : List ℕ → List Float → List Float → List Float → Tests
take_job_tests bytes table xc mq = input_tests bytes ⨾ read_job_tests bytes table xc mq

abbrev pub job_refused : Text × List ℕ → Result Job Text × List ℕ
job_refused line = (Err line.0, line.1)

-- `take_job`: its rows, point and matrix to the fronts of the slices, or the line
unfoldable pub take_job_answer : Source → List ℕ → List Float → List Float → List Float → List ℕ → Result Job Text × List Float × List Float × List Float × List ℕ
take_job_answer source bytes table xc mq out =
    let f = full_job bytes in
    unless (take_job_tests bytes table xc mq) (λ why place. with_slices table xc mq (job_refused (refused_line_answer source why place out)))
    (Ok f.job, fronted f.table table, fronted f.point xc, fronted f.matrix mq, out)

-- ---- an answer to a job of dimension n

abbrev pub take_answer_tests : ℕ → List ℕ → List Float → Tests
take_answer_tests n bytes point = input_tests bytes ⨾ read_answer_tests n bytes (length point)

abbrev pub answer_refused : List Float → Text × List ℕ → Result Answer Text × List Float × List ℕ
answer_refused point line = (Err line.0, point, line.1)

-- `take_answer`: its point, if there is one, to the front of the slice, or the line
unfoldable pub take_answer_answer : ℕ → List ℕ → List Float → List ℕ → Result Answer Text × List Float × List ℕ
take_answer_answer n bytes point out =
    let places = (answer_walk bytes).1 in
    unless (take_answer_tests n bytes point) (λ why place. answer_refused point (refused_line_answer OfAnswer why place out))
    (Ok (answer_at bytes places), fronted (point_at n bytes places) point, out)
