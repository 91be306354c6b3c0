-- What both ellipsoids share. Definitions only.
use Rattle.std.specs.Prelude.{ℕ, Bool, true, false, not, List, length, Float, Ok, Err, Result}
use Rattle.std.specs.Float.Ieee.{le, of_bits}
use Rattle.std.specs.Float.{binary64}
use Rattle.numbers.specs.F64.{◌⊖◌, ◌⊗◌}
use Rattle.numbers.specs.Pick.{pick}
use Rattle.numbers.specs.Refusal.{unless, Tests}
use Rattle.numbers.specs.Arr.{tab}
use Rattle.numbers.specs.EllCalc.{new_tests, calc_single_or_parallel_bias_cut, calc_single_or_parallel_central_cut, calc_single_or_parallel_q}
use Rattle.numbers.specs.declared.refusal.Refusal.{Refusal}
use Rattle.numbers.specs.declared.cut.CutChoice.{CutChoice}
use Rattle.numbers.specs.declared.cut.CutStatus.{CutStatus}
use Rattle.numbers.specs.declared.cut.CutStatus.TheVariants.{Success, NoSoln, NoEffect}
use Rattle.numbers.specs.declared.cut.CutAnswer.{CutAnswer}
use Rattle.numbers.specs.declared.cut.Params.{Params}
use Rattle.numbers.specs.declared.ell_calc.EllCalc.{EllCalc}
use Rattle.oracles.specs.Matrix.{nth}
use Rattle.oracles.specs.declared.ell_common.CutStrategy.{CutStrategy}
use Rattle.oracles.specs.declared.ell_common.CutStrategy.TheVariants.{BiasCut, CentralCut, Q}

-- the calculator that an update uses
abbrev pub calc_of : CutStrategy → EllCalc → CutChoice → Float → CutAnswer
calc_of BiasCut helper beta tsq = calc_single_or_parallel_bias_cut helper beta tsq
calc_of CentralCut helper beta tsq = calc_single_or_parallel_central_cut helper beta tsq
calc_of Q helper beta tsq = calc_single_or_parallel_q helper beta tsq

-- 2⁻¹⁰²², the Rust's `f64::MIN_POSITIVE`: an omega at or below it has no effect; NaN goes on
abbrev pub is_tiny : Float → Bool
is_tiny omega = le omega (of_bits binary64 0x0010_0000_0000_0000)

-- only a success changes the ellipsoid
abbrev pub is_success : CutStatus → Bool
is_success Success = true
is_success NoSoln = false
is_success NoEffect = false

-- the centre moved by −step × dir
unfoldable pub centre_of : List Float → Float → List Float → List Float
centre_of xc step dir = tab (λ i. nth xc i ⊖ step ⊗ nth dir i) (length xc)

-- ---- a new ellipsoid

-- `new_with_matrix`: refusal 1, or a fresh one
abbrev pub new_of : {X : Type 0} → (Refusal → X) → X → ℕ → X
new_of refused fresh n = unless (new_tests n) (λ why place. refused why) fresh

-- ---- one update, of either ellipsoid; B are the slices that it is lent to write

-- what it starts from, and what it works out
pub record Work (B : Type 0) : Type 0 where
  -- the ellipsoid's
  pub kappa : Float
  pub tsq : Float
  -- the calculator that was chosen, from tsq on
  pub calculator : Float → CutAnswer
  -- gᵀ P g for the gradient g and the matrix P
  pub omega : Float
  -- the slices as they came, and as they are written before the update is known to fail
  pub before : B
  pub prepared : B
  -- kappa and the slices after a success, from kappa × delta and the calculator's parameters
  pub success : Float → Params → Float × B

-- what it leaves
pub record Change (B : Type 0) : Type 0 where
  pub answer : Result CutStatus Refusal
  pub kappa : Float
  pub tsq : Float
  pub buffers : B

abbrev pub change : {B : Type 0} → Result CutStatus Refusal → Float → Float → B → Change B
change answer kappa tsq buffers = record { answer = answer; kappa = kappa; tsq = tsq; buffers = buffers }

-- the new tsq, the calculator's answer, and kappa and the slices after a success
abbrev pub tsq_of : {B : Type 0} → Work B → Float
tsq_of w = w.kappa ⊗ w.omega

abbrev pub answer_of : {B : Type 0} → Work B → CutAnswer
answer_of w = w.calculator (tsq_of w)

abbrev pub success_of : {B : Type 0} → Work B → Float × B
success_of w = w.success (w.kappa ⊗ (answer_of w).params.delta) (answer_of w).params

-- the status: NoEffect where omega is tiny, else the calculator's
unfoldable pub status_of : {B : Type 0} → Work B → CutStatus
status_of w = pick (is_tiny w.omega) NoEffect (answer_of w).status

-- the update itself: a tiny omega changes nothing, any other status but Success only tsq
unfoldable pub update_of : {B : Type 0} → Work B → Change B
update_of w =
    let status = (answer_of w).status in
    pick (is_tiny w.omega) (change (Ok NoEffect) w.kappa w.tsq w.prepared)
    (pick (not (is_success status)) (change (Ok status) w.kappa (tsq_of w) w.prepared)
    (change (Ok status) (success_of w).0 (tsq_of w) (success_of w).1))

-- `update_core`: a refused call changes nothing
abbrev pub update_answer : {B X : Type 0} → (Change B → X) → Tests → Float → Float → B → X → X
update_answer after tests kappa tsq buffers done = unless tests (λ why place. after (change (Err why) kappa tsq buffers)) done
