-- What `cutting_plane_feas` answers, from what its calls answered: the tests, the run. Assumes nothing.
use Rattle.drivers.specs.declared.answer.Answer.{Answer}
use Rattle.std.specs.Prelude.{Err, Result}
use Rattle.numbers.specs.Refusal.{At, Sound, Tests}
use mathlib.Core.Path.{◌≡◌, refl, sym, ap, ◌∙◌}
use mathlib.Core.Bool.{Bool}
use mathlib.Core.List.{List}
use Prim.Native.Nat.{ℕ}
use lib.Ieee.{Float}
use Rattle.numbers.specs.declared.refusal.Refusal.{Refusal}
use Rattle.numbers.specs.laws.Refusal.{refuses, accepts}
use Rattle.drivers.specs.CuttingPlane.{State, run_tests, kept}
use Rattle.drivers.specs.CuttingPlaneFeas.{is_found, feas_run, feas_answer}
use Rattle.drivers.specs.laws.Refused.{feas_refused}
use Rattle.drivers.specs.declared.cutting_plane.Options.{Options}

-- the tests said k
module _ (options : Options) (rows : ℕ) (table : List Float) (s : State) (best : List Float) (k : Tests) (e : k ≡ run_tests rows table s best) where
  -- both promises: the answer, and that a refusal gives everything back
  abbrev FeasPromised : Result Answer Refusal → State → List Float → Type 0
  FeasPromised r s' best' =
      ((r, s', best') ≡ feas_answer options rows table s best) × ((why : Refusal) → r ≡ Err why → ◌≡◌ {A = State × List Float} (s', best') (s, best))

  feas_promised : (r : (Result Answer Refusal)) (s' : State) (best' : List Float) → (r, s', best') ≡ feas_answer options rows table s best → FeasPromised r s' best'
  feas_promised r s' best' d =
      (d, λ why h. ap (λ (p : Result Answer Refusal × State × List Float). (p.1, p.2)) (d ∙ feas_refused options rows table s best why (sym (ap (λ (p : Result Answer Refusal × State × List Float). p.0) d) ∙ h)))

  pub feas_faulty : (why : Refusal) (place : ℕ) → k ≡ At why place → FeasPromised (Err why) s best
  unfolding feas_answer
  feas_faulty why place w = feas_promised (Err why) s best (refuses _ _ (run_tests rows table s best) (sym w ∙ e) refl)

  pub feas_done : k ≡ Sound → (r : (Result Answer Refusal)) (s' : State) → (r, s') ≡ feas_run rows table options.tolerance options.max_iters 0 s
      → (f : Bool) → f ≡ is_found r → (best' : List Float) → best' ≡ kept f s'.buffers.xc best → FeasPromised r s' best'
  unfolding feas_answer
  feas_done w r s' d f g best' q =
      feas_promised r s' best'
      (accepts _ _ (run_tests rows table s best) (sym w ∙ e)
      (ap (λ (l : List Float). (r, s', l)) (q ∙ ap (λ (t : Bool). kept t s'.buffers.xc best) g)
      ∙ ap (λ (p : Result Answer Refusal × State). (p.0, p.1, kept (is_found p.0) p.1.buffers.xc best)) d))
