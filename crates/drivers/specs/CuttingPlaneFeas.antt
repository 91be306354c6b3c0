-- `cutting_plane_feas` (cutting_plane.rs) over the lowpass oracle and `Ell`: a step, a run as its steps, and what the call answers. Definitions only.
use Rattle.drivers.specs.declared.cutting_plane_feas.StepCut.{StepCut}
use Rattle.oracles.specs.declared.lowpass_oracle.Cut.{Cut}
use Rattle.drivers.specs.declared.answer.Answer.{Answer}
use Rattle.numbers.specs.declared.refusal.Refusal.{Refusal}
use Rattle.numbers.specs.declared.cut.CutStatus.{CutStatus}
use Rattle.std.specs.Prelude.{ℕ, zero, suc, Bool, true, false, List, Float, Option, Some, None, Result, Ok, Err}
use Rattle.numbers.specs.Pick.{pick}
use Rattle.numbers.specs.Refusal.{unless}
use Rattle.oracles.specs.LowpassOracle.{assess_feas_answer, Verdict}
use Rattle.oracles.specs.Ell.{ell_update_answer}
use Rattle.oracles.specs.declared.ell_common.CutStrategy.TheVariants.{BiasCut}
use Rattle.oracles.specs.declared.lowpass_oracle.LowpassOracle.{LowpassOracle}
use Rattle.drivers.specs.declared.cutting_plane.Options.{Options}
use Rattle.drivers.specs.CuttingPlane.{State, run_tests, kept, proceeds}

-- what a step came to: none where the centre is feasible, else the cut that was made and what the ellipsoid came to
abbrev pub StepAnswer : Type 0
StepAnswer = Result (Option StepCut) Refusal

-- what a cut came to
abbrev pub cut_answer : Cut → Result CutStatus Refusal → StepAnswer
cut_answer cut (Ok status) = Ok (Some (record { cut = cut; status = status }))
cut_answer cut (Err why) = Err why

-- the step after the assessment of the centre, with the oracle and the gradient that it left
abbrev pub feas_cut : State → LowpassOracle → Verdict → List Float → StepAnswer × State
feas_cut s o (Ok None) grad = (Ok None, record { oracle = o; ell = s.ell; buffers = s.buffers; grad = grad })
feas_cut s o (Ok (Some cut)) grad =
    let u = ell_update_answer s.ell BiasCut grad cut.beta s.buffers in
    (cut_answer cut u.0.answer, record { oracle = o; ell = u.0.ell; buffers = u.1; grad = grad })
feas_cut s o (Err why) grad = (Err why, record { oracle = o; ell = s.ell; buffers = s.buffers; grad = grad })

-- a step: assess the centre, and cut it off unless it is feasible
unfoldable pub feas_step : ℕ → List Float → State → StepAnswer × State
feas_step rows table s =
    let a = assess_feas_answer s.oracle s.ell.ndim rows table s.buffers.xc s.grad in
    feas_cut s a.0.oracle a.0.verdict a.1

-- a run goes on after a cut that succeeded
abbrev pub goes_on : StepAnswer → Float → Float → Bool
goes_on (Ok None) tsq tolerance = false
goes_on (Ok (Some made)) tsq tolerance = proceeds made.status tsq tolerance
goes_on (Err why) tsq tolerance = false

-- the answer of a run that ends with step k: a feasible point is found, a cut ends without one
abbrev pub feas_ended : StepAnswer → ℕ → Result Answer Refusal
feas_ended (Ok None) k = Ok (record { found = true; steps = k })
feas_ended (Ok (Some made)) k = Ok (record { found = false; steps = k })
feas_ended (Err why) k = Err why

-- the steps k, k + 1, .. of a run of which so many are left, and the state that they leave; without one, none is found at k
unfoldable pub feas_run : ℕ → List Float → Float → ℕ → ℕ → State → Result Answer Refusal × State
feas_run rows table tolerance zero k s = (Ok (record { found = false; steps = k }), s)
feas_run rows table tolerance (suc left) k s =
    let r = feas_step rows table s in
    pick (goes_on r.0 r.1.ell.tsq tolerance) (feas_run rows table tolerance left (suc k) r.1) (feas_ended r.0 k, r.1)

abbrev pub is_found : Result Answer Refusal → Bool
is_found (Ok a) = a.found
is_found (Err why) = false

-- `cutting_plane_feas`: the answer, the state, and x_best, which has the point if one is found
unfoldable pub feas_answer : Options → ℕ → List Float → State → List Float → Result Answer Refusal × State × List Float
feas_answer options rows table s best =
    let r = feas_run rows table options.tolerance options.max_iters 0 s in
    unless (run_tests rows table s best) (λ why place. (Err why, s, best)) (r.0, r.1, kept (is_found r.0) r.1.buffers.xc best)
