-- An exported run that is refused leaves everything that it is lent as it was; only an optimizing run that 6 halts does not. Assumes nothing.
use Rattle.drivers.specs.declared.cutting_plane_optim.OptimStop.{OptimStop}
use Rattle.drivers.specs.declared.answer.Answer.{Answer}
use Rattle.oracles.specs.declared.ell.Ell.{Ell}
use Rattle.std.specs.Prelude.{ℕ, ◌≡◌, refl, false, List, eqb, Float, Err, Ok, Result}
use Rattle.std.proofs.Common.{sym, ap, ◌∙◌, true≢false}
use Rattle.numbers.specs.declared.refusal.Refusal.{Refusal}
use Rattle.oracles.specs.declared.lowpass_oracle.LowpassOracle.{LowpassOracle}
use Rattle.drivers.specs.CuttingPlane.{State}
use Rattle.drivers.specs.CuttingPlaneOptim.{OptimState, OptimEnd, end_of, optim_answer, halted, optim_refused as not_run}
use Rattle.drivers.specs.CuttingPlaneFeas.{feas_answer}
use Rattle.drivers.specs.Numbered.{optim_number}
use Rattle.drivers.specs.laws.Refused.{feas_refused, optim_refused}
use Rattle.drivers.specs.declared.cutting_plane.Options.{Options}
use Rattle.ponduvizh.specs.ExportedRuns.{RunEnd, coded, feas_run_end, feas_exported, optim_run_end, optim_exported}

-- a number that is not 0: the slices and what a run tells are as they were
pub feas_exported_refused : (x : (Result Ell Refusal)) (o : LowpassOracle) (options : Options) (rows : ℕ) (table : List Float) (l : RunEnd)
    → let r = feas_exported x o options rows table l in eqb r.code 0 ≡ false → r ≡ coded r.code l
unfolding feas_exported feas_run_end
feas_exported_refused (Err why) o options rows table l = λ _. refl
feas_exported_refused (Ok e) o options rows table l = let r = feas_answer options rows table s l.best in go r.0 r.1 r.2 (feas_refused options rows table s l.best)
  where
    s : State
    s = record { oracle = o; ell = e; buffers = l.buffers; grad = l.grad }

    go : (a : (Result Answer Refusal)) (s' : State) (best : List Float) → ((why : Refusal) → a ≡ Err why → ◌≡◌ {A = (Result Answer Refusal) × State × List Float} (a, s', best) (Err why, s, l.best))
        → let r = feas_run_end (a, s', best) l.numbers in eqb r.code 0 ≡ false → r ≡ coded r.code l
    go (Ok d) s' best f h = absurd (true≢false h)
    go (Err why) s' best f h = ap (λ (z : Result Answer Refusal × State × List Float). feas_run_end z l.numbers) (f why refl)

-- one that is neither 0 nor 6: gamma too
pub optim_exported_refused : (x : (Result Ell Refusal)) (o : LowpassOracle) (options : Options) (rows : ℕ) (table : List Float) (gamma : Float) (l : RunEnd)
    → let r = optim_exported x o options rows table gamma l in eqb r.0.code 0 ≡ false → eqb r.0.code 6 ≡ false → r ≡ (coded r.0.code l, gamma)
unfolding optim_exported optim_run_end
optim_exported_refused (Err why) o options rows table gamma l = λ _ _. refl
optim_exported_refused (Ok e) o options rows table gamma l = go (optim_answer options rows table s).answer (optim_answer options rows table s) refl (optim_refused options rows table s)
  where
    s : OptimState
    s = record { oracle = o; ell = e; buffers = l.buffers; grad = l.grad; gamma = gamma; found = false; best = l.best }

    go : (a : (Result Answer OptimStop)) (r : OptimEnd) → r.answer ≡ a → ((why : Refusal) → r.answer ≡ not_run why → r ≡ end_of (not_run why) s)
        → let t = optim_run_end r l.numbers in eqb t.0.code 0 ≡ false → eqb t.0.code 6 ≡ false → t ≡ (coded t.0.code l, gamma)
    go (Ok d) r e f h h' = absurd (true≢false (sym (ap (λ (a : (Result Answer OptimStop)). eqb (optim_number a) 0) e) ∙ h))
    go (halted d) r e f h h' = absurd (true≢false (sym (ap (λ (a : (Result Answer OptimStop)). eqb (optim_number a) 6) e) ∙ h'))
    go (not_run why) r e f h h' = rw (f why e) refl
