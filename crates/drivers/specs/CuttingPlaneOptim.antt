-- `cutting_plane_optim` (cutting_plane.rs) over the lowpass oracle and `Ell`: a step, a run as its steps, and what the call answers. Definitions only.
use Rattle.drivers.specs.declared.cutting_plane_optim.OptimStop.{OptimStop}
use Rattle.drivers.specs.declared.answer.Answer.{Answer}
use Rattle.drivers.specs.declared.cutting_plane_optim.OptimStop.TheVariants.{Halted, Refused}
use Rattle.oracles.specs.declared.lowpass_oracle.OptimVerdict.TheVariants.{Improved, Cut}
use Rattle.numbers.specs.declared.cut.CutStatus.{CutStatus}
use Rattle.numbers.specs.declared.refusal.Refusal.{Refusal}
use Rattle.oracles.specs.declared.lowpass_oracle.OptimVerdict.{OptimVerdict}
use Rattle.std.specs.Prelude.{ℕ, zero, suc, Bool, true, false, List, Float, Err, Ok, Result}
use Rattle.numbers.specs.Pick.{pick}
use Rattle.numbers.specs.Refusal.{unless}
use Rattle.oracles.specs.LowpassOracle.{assess_optim_answer}
use Rattle.oracles.specs.Ell.{EllBuffers, ell_update_answer}
use Rattle.oracles.specs.declared.ell.Ell.{Ell}
use Rattle.oracles.specs.declared.ell.EllUpdate.{EllUpdate}
use Rattle.oracles.specs.declared.ell_common.CutStrategy.TheVariants.{BiasCut, CentralCut}
use Rattle.oracles.specs.declared.lowpass_oracle.LowpassOracle.{LowpassOracle}
use Rattle.drivers.specs.declared.cutting_plane.Options.{Options}
use Rattle.oracles.specs.Ell.{ell_buffers}
use Rattle.drivers.specs.CuttingPlane.{State, state_of, run_tests, kept, proceeds}

-- all that a run moves, with the caller's number, and the best point so far if there is one
pub record OptimState : Type 0 where
  pub oracle : LowpassOracle
  pub ell : Ell
  pub buffers : EllBuffers
  pub grad : List Float
  pub gamma : Float
  pub found : Bool
  pub best : List Float

abbrev pub optim_state_of : LowpassOracle → Ell → Float → Bool → List Float → List Float → List Float → List Float → List Float → OptimState
optim_state_of o e gamma found mq xc grad grad_t best =
    record { oracle = o; ell = e; buffers = ell_buffers mq xc grad_t; grad = grad; gamma = gamma; found = found; best = best }

-- without what only an optimizing run has
abbrev pub plain : OptimState → State
plain s = record { oracle = s.oracle; ell = s.ell; buffers = s.buffers; grad = s.grad }

-- after an update, with the oracle, the gradient and the number that the assessment left, and the best point
abbrev pub optim_updated : OptimState → LowpassOracle → Float → List Float → Bool → List Float → EllUpdate × EllBuffers → Result CutStatus Refusal × OptimState
optim_updated s o gamma grad found best u =
    (u.0.answer, record { oracle = o; ell = u.0.ell; buffers = u.1; grad = grad; gamma = gamma; found = found; best = best })

-- the step after the assessment: a feasible centre is kept and cut centrally, any other is cut off; a refusal changes nothing
abbrev pub optim_cut : OptimState → LowpassOracle → Float → Result OptimVerdict Refusal → List Float → Result CutStatus Refusal × OptimState
optim_cut s o gamma (Ok (Improved beta)) grad =
    optim_updated s o gamma grad true (kept true s.buffers.xc s.best) (ell_update_answer s.ell CentralCut grad beta s.buffers)
optim_cut s o gamma (Ok (Cut cut)) grad = optim_updated s o gamma grad s.found s.best (ell_update_answer s.ell BiasCut grad cut.beta s.buffers)
optim_cut s o gamma (Err why) grad =
    (Err why, record { oracle = o; ell = s.ell; buffers = s.buffers; grad = grad; gamma = gamma; found = s.found; best = s.best })

unfoldable pub optim_step : ℕ → List Float → OptimState → Result CutStatus Refusal × OptimState
optim_step rows table s =
    let a = assess_optim_answer s.oracle s.gamma s.ell.ndim rows table s.buffers.xc s.grad in
    optim_cut s a.0.oracle a.0.gamma a.0.verdict a.1

abbrev pub optim_goes_on : Result CutStatus Refusal → Float → Float → Bool
optim_goes_on (Ok status) tsq tolerance = proceeds status tsq tolerance
optim_goes_on (Err why) tsq tolerance = false

-- a run that refusal 6 halted, and one that was refused
pattern abbrev pub halted : Answer → Result Answer OptimStop
halted a = Err (Halted a)

pattern abbrev pub optim_refused : Refusal → Result Answer OptimStop
optim_refused why = Err (Refused why)

-- the answer of a run that ends with step k, or is halted there by refusal 6
abbrev pub optim_ended : Result CutStatus Refusal → Bool → ℕ → Result Answer OptimStop
optim_ended (Ok status) found k = Ok (record { found = found; steps = k })
optim_ended (Err why) found k = halted (record { found = found; steps = k })

-- what a run ends with: its answer, the state, gamma and x_best
pub record OptimEnd : Type 0 where
  pub answer : Result Answer OptimStop
  pub state : State
  pub gamma : Float
  pub best : List Float

abbrev pub optim_end : Result Answer OptimStop → LowpassOracle → Ell → Float → List Float → List Float → List Float → List Float → List Float → OptimEnd
optim_end answer o e gamma mq xc grad grad_t best = record { answer = answer; state = state_of o e mq xc grad grad_t; gamma = gamma; best = best }

abbrev pub end_of : Result Answer OptimStop → OptimState → OptimEnd
end_of answer s = record { answer = answer; state = plain s; gamma = s.gamma; best = s.best }

-- the steps k, k + 1, .. of a run of which so many are left
unfoldable pub optim_run : ℕ → List Float → Float → ℕ → ℕ → OptimState → OptimEnd
optim_run rows table tolerance zero k s = end_of (Ok (record { found = s.found; steps = k })) s
optim_run rows table tolerance (suc left) k s =
    let r = optim_step rows table s in
    pick (optim_goes_on r.0 r.1.ell.tsq tolerance) (optim_run rows table tolerance left (suc k) r.1) (end_of (optim_ended r.0 r.1.found k) r.1)

-- `cutting_plane_optim`
unfoldable pub optim_answer : Options → ℕ → List Float → OptimState → OptimEnd
optim_answer options rows table s =
    unless (run_tests rows table (plain s) s.best) (λ why place. end_of (optim_refused why) s) (optim_run rows table options.tolerance options.max_iters 0 s)
