-- Laws of Jobfile: what `belongs` writes of a job, whatever is read of the answer's file. Assumes nothing.
use Rattle.std.specs.Prelude.{ℕ, ◌*◌, ◌≡◌, List, length, take, Float, Option, Some, None}
use Rattle.std.proofs.Common.{sym, ◌∙◌, subst}
use Rattle.streams.specs.Input.{ReadInto, of_read}
use Rattle.streams.specs.laws.Input.{input_room, read_none}
use Rattle.streams.specs.declared.output.Console.{Console}
use Rattle.streams.specs.declared.sink.Sink.{Ghosts}
use Rattle.drivers.specs.Job.{full_job_at, job_walk, full_job}
use Rattle.drivers.specs.laws.JobRuns.{full_long, front_is}
use Rattle.drivers.specs.declared.job.Job.{Job}
use Rattle.drivers.specs.declared.trace.Source.TheVariants.{Job as TheJob}
use Rattle.commands.specs.Output.{Written, nothing_written, Writes}
use Rattle.commands.specs.Belongs.{judged_written, belongs_written}
use Rattle.commands.specs.Jobfile.{Wrote, judged}
use Rattle.commands.specs.declared.arguments.Command.TheVariants.{Belongs}
use Rattle.commands.specs.laws.Taken.{JobIs, goes_on}

-- a console hands over one text of those that P allows
pub record Writing {W E : Type 0} (sink : Ghosts W) (before after : Console W E) (P : Written → Type 0) : Type 0 where
  pub written : Written
  pub is_one : P written
  pub writes : Writes sink before after written

-- what is written of a job that was read ..
pub data Judged (j : Job) (table x : List Float) : Written → Type 0 where
  of_answer : (read : Option ℕ) (bytes : List ℕ) → ReadInto read bytes → Judged j table x (of_read read bytes (judged_written j table x) nothing_written)

-- .. of its bytes ..
pub data JobJudged (job : List ℕ) : Written → Type 0 where
  of_both : (read : Option ℕ) (bytes : List ℕ) → ReadInto read bytes → JobJudged job (belongs_written job read bytes)

-- .. and of what was read of its file
pub data FileJudged (read : Option ℕ) (bytes : List ℕ) : Written → Type 0 where
  of_files : (read' : Option ℕ) (bytes' : List ℕ) → ReadInto read' bytes' → FileJudged read bytes (of_read read bytes (λ job. belongs_written job read' bytes') nothing_written)

pub of_file : (read : Option ℕ) (bytes : List ℕ) → ReadInto read bytes → (w : Written) → FileJudged read bytes w → Wrote Belongs w
of_file read bytes i w (of_files read' bytes' i') = judged read bytes i read' bytes' i'

pub of_job_file : (read : Option ℕ) (bytes : List ℕ) (count : ℕ) → read ≡ Some count → (w : Written) → JobJudged (take count bytes) w → FileJudged read bytes w
of_job_file read bytes count e w (of_both read' bytes' i) =
    subst (λ (z : Option ℕ). FileJudged z bytes (belongs_written (take count bytes) read' bytes')) (sym e) (of_files read' bytes' i)

pub unread_file : (read : Option ℕ) (bytes : List ℕ) → read ≡ None → FileJudged read bytes nothing_written
unread_file read bytes e = subst (λ (z : Option ℕ). FileJudged z bytes nothing_written) (sym e) (of_files None input_room read_none)

pub of_judged : (job : List ℕ) (j : Job) (table x : List Float) → ((read : Option ℕ) (bytes : List ℕ) → of_read read bytes (judged_written j table x) nothing_written ≡ belongs_written job read bytes)
    → (w : Written) → Judged j table x w → JobJudged job w
of_judged job j table x e w (of_answer read bytes i) = subst (JobJudged job) (sym (e read bytes)) (of_both read bytes i)

-- of the fronts of the slices that a job was taken into
pub fronts_judged : (bytes : List ℕ) (table xc mq : List Float) (out : List ℕ) (j : Job) (table' xc' mq' : List Float) (out' : List ℕ) → length table ≡ 32768 → length xc ≡ 32 → length mq ≡ 1024
    → JobIs TheJob bytes table xc mq out j table' xc' mq' out'
    → (read : Option ℕ) (answer : List ℕ) → of_read read answer (judged_written j (take (j.rows * j.n) table') (take j.n xc')) nothing_written ≡ belongs_written bytes read answer
unfolding belongs_written full_job_at
fronts_judged bytes table xc mq out j table' xc' mq' out' t x m is read answer =
    let f = full_job bytes in
    let n = f.job.n in
    let l = full_long bytes (job_walk bytes).1 in
    rw (is.job_is, is.table_is, is.xc_is)
    (λ i. of_read read answer (judged_written f.job (front_is f.table table (f.job.rows * n) l.table_is i) (front_is f.point xc n l.point_is i)) nothing_written)
    ∙ goes_on TheJob bytes table xc mq out t x m is _
