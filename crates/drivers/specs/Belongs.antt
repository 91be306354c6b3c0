-- Whether an answer belongs to a job (document 01, "Job and answer records"). Definitions only.
use Rattle.numbers.specs.declared.refusal.Refusal.{Refusal}
use Rattle.std.specs.Prelude.{Bool, not, ◌&&◌, List, eqb, length, Float, Err, Ok, Result}
use Rattle.numbers.specs.Pick.{pick}
use Rattle.numbers.specs.Refusal.{unless, Tests}
use Rattle.oracles.specs.Table.{table_fits}
use Rattle.oracles.specs.LowpassOracle.{oracle_tests, assess_feas_answer}
use Rattle.oracles.specs.Verdict.{asked, judge, is_feasible}
use Rattle.drivers.specs.Job.{job_oracle}
use Rattle.drivers.specs.declared.answer.Answer.{Answer}
use Rattle.drivers.specs.declared.job.Job.{Job}

-- a point is feasible for a job: nothing of the job's cursors is asked
abbrev pub feasible_for : Job → List Float → List Float → Bool
feasible_for j table x = is_feasible (judge (asked (job_oracle j) (job_oracle j).sp_sq j.n j.rows table x))

-- the point that is asked about: the answer's, or the job's own where it has none
abbrev pub asked_point : Answer → List Float → List Float → List Float
asked_point a x point = pick a.found point x

-- an answer with a point belongs where it is feasible, one without where the job's own point isn't
abbrev pub is_of : Job → List Float → List Float → Answer → List Float → Bool
is_of j table x a point = pick a.found (feasible_for j table point) (not (feasible_for j table x))

-- `belongs`: refusals 1 to 4; grad is left as the assessment of the point that is asked about leaves it
abbrev pub belongs_tests : Job → List Float → List Float → List Float → List Float → Tests
belongs_tests j table x point grad =
    oracle_tests (job_oracle j) j.n j.rows (table_fits j.n j.rows table x && eqb (length point) j.n && eqb (length grad) j.n)

unfoldable pub belongs_answer : Job → List Float → List Float → Answer → List Float → List Float → Result Bool Refusal × List Float
belongs_answer j table x a point grad =
    unless (belongs_tests j table x point grad) (λ why place. (Err why, grad))
    (Ok (is_of j table x a point), (assess_feas_answer (job_oracle j) j.n j.rows table (asked_point a x point) grad).1)
