-- What the exported drivers and the exported reader answer. Definitions only.
use Rattle.drivers.specs.declared.cutting_plane_optim.OptimStop.{OptimStop}
use Rattle.numbers.specs.declared.refusal.Fault.{Fault}
use Rattle.numbers.specs.declared.refusal.Refusal.{Refusal}
use Rattle.std.specs.Prelude.{ℕ, false, cond, List, [], ◌∷◌, ℤ, Float, Err, Ok, Result}
use Rattle.numbers.specs.Refusal.{refusal_number, number_at}
use Rattle.oracles.specs.Ell.{EllBuffers}
use Rattle.oracles.specs.declared.ell.Ell.{Ell}
use Rattle.oracles.specs.declared.lowpass_oracle.LowpassOracle.{LowpassOracle}
use Rattle.drivers.specs.CuttingPlane.{State}
use Rattle.drivers.specs.CuttingPlaneFeas.{feas_answer}
use Rattle.drivers.specs.CuttingPlaneOptim.{OptimEnd, optim_answer, halted, optim_refused}
use Rattle.drivers.specs.Numbered.{optim_number}
use Rattle.drivers.specs.Job.{job_oracle}
use Rattle.drivers.specs.declared.answer.Answer.{Answer}
use Rattle.drivers.specs.declared.cutting_plane.Options.{Options}
use Rattle.drivers.specs.declared.job.Job.{Job}

-- what an oracle was left with: cur of the cursors of pass, middle and stop, idx1 to idx3, kmax
unfoldable pub marks_of : LowpassOracle → List ℤ
marks_of o = o.rr1.cur ∷ o.rr2.cur ∷ o.rr3.cur ∷ o.idx1 ∷ o.idx2 ∷ o.idx3 ∷ o.kmax ∷ []

-- and its numbers, with those of the ellipsoid: sp_sq, fmax, kappa, tsq
unfoldable pub values_of : LowpassOracle → Ell → List Float
values_of o e = o.sp_sq ∷ o.fmax ∷ e.kappa ∷ e.tsq ∷ []

-- found, the steps, and the oracle's more_alt
unfoldable pub answer_of : Answer → LowpassOracle → List ℕ
answer_of a o = cond a.found 1 0 ∷ a.steps ∷ cond o.more_alt 1 0 ∷ []

-- what a run tells in numbers: `answer_of`, `marks_of`, `values_of`
pub record RunNumbers : Type 0 where
  pub answer : List ℕ
  pub marks : List ℤ
  pub values : List Float

abbrev pub run_numbers : List ℕ → List ℤ → List Float → RunNumbers
run_numbers answer marks values = record { answer = answer; marks = marks; values = values }

unfoldable pub numbers_after : Answer → LowpassOracle → Ell → RunNumbers
numbers_after a o e = record { answer = answer_of a o; marks = marks_of o; values = values_of o e }

-- an answer of `cutting_plane_feas` as one of `cutting_plane_optim`: it is never halted
abbrev pub as_optim : Result Answer Refusal → Result Answer OptimStop
as_optim (Ok a) = Ok a
as_optim (Err why) = optim_refused why

-- a run that is refused leaves the numbers as they were; one that is halted says how far it came
abbrev pub numbers_by : Result Answer OptimStop → LowpassOracle → Ell → RunNumbers → RunNumbers
numbers_by (Ok a) o e old = numbers_after a o e
numbers_by (halted a) o e old = numbers_after a o e
numbers_by (optim_refused why) o e old = old

-- what a run leaves: its number, what it says in numbers, and the slices
pub record RunEnd : Type 0 where
  pub code : ℕ
  pub numbers : RunNumbers
  pub buffers : EllBuffers
  pub grad : List Float
  pub best : List Float

abbrev pub run_end : ℕ → RunNumbers → EllBuffers → List Float → List Float → RunEnd
run_end code numbers buffers grad best = record { code = code; numbers = numbers; buffers = buffers; grad = grad; best = best }

-- with another number
abbrev pub coded : ℕ → RunEnd → RunEnd
coded code l = run_end code l.numbers l.buffers l.grad l.best

-- after a run with this answer
abbrev pub run_end_of : Result Answer OptimStop → State → List Float → RunNumbers → RunEnd
run_end_of a s best old = run_end (optim_number a) (numbers_by a s.oracle s.ell old) s.buffers s.grad best

unfoldable pub feas_run_end : Result Answer Refusal × State × List Float → RunNumbers → RunEnd
feas_run_end r old = run_end_of (as_optim r.0) r.1 r.2 old

-- with gamma
unfoldable pub optim_run_end : OptimEnd → RunNumbers → RunEnd × Float
optim_run_end r old = (run_end_of r.answer r.state r.best old, r.gamma)

-- the ellipsoid of n and kappa is made first; refusal 1 where it cannot be
unfoldable pub feas_exported : Result Ell Refusal → LowpassOracle → Options → ℕ → List Float → RunEnd → RunEnd
feas_exported (Ok e) o options rows table l = feas_run_end (feas_answer options rows table (record { oracle = o; ell = e; buffers = l.buffers; grad = l.grad }) l.best) l.numbers
feas_exported (Err why) o options rows table l = coded (refusal_number why) l

unfoldable pub optim_exported : Result Ell Refusal → LowpassOracle → Options → ℕ → List Float → Float → RunEnd → RunEnd × Float
optim_exported (Ok e) o options rows table gamma l =
    optim_run_end (optim_answer options rows table (record { oracle = o; ell = e; buffers = l.buffers; grad = l.grad; gamma = gamma; found = false; best = l.best })) l.numbers
optim_exported (Err why) o options rows table gamma l = (coded (refusal_number why) l, gamma)

-- ---- a job that was read: n, the rows and the step limit; nwpass and nwstop; the marks; lp_sq, up_sq, sp_sq, kappa and the tolerance
pub record JobNumbers : Type 0 where
  pub sizes : List ℕ
  pub bands : List ℤ
  pub marks : List ℤ
  pub numbers : List Float

abbrev pub bands_of : Job → List ℤ
bands_of j = j.nwpass ∷ j.nwstop ∷ []

abbrev pub numbers_of : Job → List Float
numbers_of j = j.lp_sq ∷ j.up_sq ∷ j.sp_sq ∷ j.kappa ∷ j.options.tolerance ∷ []

abbrev pub numbers_read : List ℕ → List ℤ → List ℤ → List Float → JobNumbers
numbers_read sizes bands marks numbers = record { sizes = sizes; bands = bands; marks = marks; numbers = numbers }

unfoldable pub job_numbers : Job → JobNumbers
job_numbers j =
    record {
      sizes = j.n ∷ j.rows ∷ j.options.max_iters ∷ [];
      bands = bands_of j;
      marks = marks_of (job_oracle j);
      numbers = numbers_of j;
    }

-- the place of a refusal, and what was read
abbrev pub place_or : Result Job Fault → ℕ → ℕ
place_or (Ok j) old = old
place_or (Err fault) old = fault.place

abbrev pub job_numbers_or : Result Job Fault → JobNumbers → JobNumbers
job_numbers_or (Ok j) old = job_numbers j
job_numbers_or (Err fault) old = old

abbrev pub job_exported : Result Job Fault → ℕ → JobNumbers → ℕ × ℕ × JobNumbers
job_exported a place l = (number_at a, place_or a place, job_numbers_or a l)

unfoldable pub read_exported : Result Job Fault × List Float × List Float × List Float → ℕ → JobNumbers → (ℕ × ℕ × JobNumbers) × List Float × List Float × List Float
read_exported r place l = (job_exported r.0 place l, r.1, r.2, r.3)
