-- What an exported run leaves, part by part. Assumes nothing.
use Rattle.drivers.specs.declared.cutting_plane_optim.OptimStop.{OptimStop}
use Rattle.drivers.specs.declared.answer.Answer.{Answer}
use Rattle.std.specs.Prelude.{Err, Ok, Result}
use mathlib.Core.Path.{◌≡◌, refl, sym, ap, ◌∙◌}
use mathlib.Core.List.{List}
use Prim.Native.Nat.{ℕ}
use lib.Dec.{eqb}
use lib.Ieee.{Float}
use mathlib.Core.Bool.{false}
use Rattle.numbers.specs.Refusal.{refusal_number}
use Rattle.numbers.specs.declared.refusal.Refusal.{Refusal}
use Rattle.oracles.specs.Ell.{EllBuffers}
use Rattle.oracles.specs.declared.ell.Ell.{Ell}
use Rattle.oracles.specs.declared.lowpass_oracle.LowpassOracle.{LowpassOracle}
use Rattle.drivers.specs.CuttingPlane.{State}
use Rattle.drivers.specs.CuttingPlaneFeas.{feas_answer}
use Rattle.drivers.specs.CuttingPlaneOptim.{OptimEnd, optim_end, optim_answer}
use Rattle.drivers.specs.Numbered.{optim_number}
use Rattle.drivers.specs.declared.cutting_plane.Options.{Options}
use Rattle.ponduvizh.specs.ExportedRuns.{RunNumbers, RunEnd, run_end, as_optim, numbers_by, feas_run_end, optim_run_end, feas_exported, optim_exported}
use Rattle.ponduvizh.specs.laws.Refused.{feas_exported_refused, optim_exported_refused}

pub feas_law : (a : (Result Answer Refusal)) (a' : (Result Answer OptimStop)) (o : LowpassOracle) (e : Ell) (b : EllBuffers) (grad best : List Float) (code : ℕ) (now old : RunNumbers) (r : Result Answer Refusal × State × List Float)
    → (a, record { oracle = o; ell = e; buffers = b; grad = grad }, best) ≡ r
    → a' ≡ as_optim a
    → code ≡ optim_number a'
    → now ≡ numbers_by a' o e old
    → run_end code now b grad best ≡ feas_run_end r old
unfolding feas_run_end
feas_law a a' o e b grad best code now old r d m h t = rw (← d, h, t, m) refl

pub optim_law : (a : (Result Answer OptimStop)) (o : LowpassOracle) (e : Ell) (gamma : Float) (b : EllBuffers) (grad best : List Float) (code : ℕ) (now old : RunNumbers) (r : OptimEnd)
    → optim_end a o e gamma b.mq b.xc grad b.grad_t best ≡ r
    → code ≡ optim_number a
    → now ≡ numbers_by a o e old
    → ◌≡◌ {A = RunEnd × Float} (run_end code now b grad best, gamma) (optim_run_end r old)
unfolding optim_run_end
optim_law a o e gamma b grad best code now old r d h t = rw (← d, h, t) refl

-- Both promises, from the ellipsoid x that was asked for, which the definition calls y, and from the oracle and the options by either name: what is left, and that a refusal leaves all as it was.
module _ (x y : (Result Ell Refusal)) (o o' : LowpassOracle) (p p' : Options) (rows : ℕ) (table : List Float) (t : RunNumbers) (b : EllBuffers) (grad best : List Float) (ex : x ≡ y) (eo : o ≡ o') (ep : p ≡ p') where
  abbrev was : ℕ → RunEnd
  was code = run_end code t b grad best

  abbrev FeasPromise : RunEnd → Type 0
  FeasPromise r = (r ≡ feas_exported y o' p' rows table (was 0)) × (eqb r.code 0 ≡ false → r ≡ was r.code)

  feas_promised : (r : RunEnd) → r ≡ feas_exported y o' p' rows table (was 0) → FeasPromise r
  feas_promised r d =
      (d, λ h. d ∙ feas_exported_refused y o' p' rows table (was 0) (sym (ap (λ (z : RunEnd). eqb z.code 0) d) ∙ h) ∙ ap (λ (z : RunEnd). was z.code) (sym d))

  pub feas_made : (e : Ell) (r : RunEnd) → x ≡ Ok e → r ≡ feas_run_end (feas_answer p rows table (record { oracle = o; ell = e; buffers = b; grad = grad }) best) t → FeasPromise r
  unfolding feas_exported
  feas_made e r m h = feas_promised r (rw (← ex, m, ← eo, ← ep) h)

  pub feas_not_made : (why : Refusal) (code : ℕ) → x ≡ Err why → code ≡ refusal_number why → FeasPromise (was code)
  unfolding feas_exported
  feas_not_made why code m h = feas_promised (was code) (rw (← ex, m, h) refl)

  module _ (gamma : Float) where
    abbrev OptimPromise : RunEnd × Float → Type 0
    OptimPromise r =
        (r ≡ optim_exported y o' p' rows table gamma (was 0)) × (eqb r.0.code 0 ≡ false → eqb r.0.code 6 ≡ false → r ≡ (was r.0.code, gamma))

    optim_promised : (r : RunEnd × Float) → r ≡ optim_exported y o' p' rows table gamma (was 0) → OptimPromise r
    optim_promised r d = (
      d,
      λ h h'.
          d
          ∙ optim_exported_refused y o' p' rows table gamma (was 0) (sym (ap (λ (z : RunEnd × Float). eqb z.0.code 0) d) ∙ h) (sym (ap (λ (z : RunEnd × Float). eqb z.0.code 6) d) ∙ h')
          ∙ ap (λ (z : RunEnd × Float). (was z.0.code, gamma)) (sym d),
    )

    pub optim_made : (e : Ell) (r : RunEnd × Float) → x ≡ Ok e
        → r ≡ optim_run_end (optim_answer p rows table (record { oracle = o; ell = e; buffers = b; grad = grad; gamma = gamma; found = false; best = best })) t
        → OptimPromise r
    unfolding optim_exported
    optim_made e r m h = optim_promised r (rw (← ex, m, ← eo, ← ep) h)

    pub optim_not_made : (why : Refusal) (code : ℕ) → x ≡ Err why → code ≡ refusal_number why → OptimPromise (was code, gamma)
    unfolding optim_exported
    optim_not_made why code m h = optim_promised (was code, gamma) (rw (← ex, m, h) refl)
