-- A refused run gives everything back as it came: the oracle, the ellipsoid with its matrix and centre, both scratch vectors, x_best, and the caller's number.
-- A run that refusal 6 halts has begun, and is not refused; the number 6 tells such a run and no other. Assumes nothing.
use Rattle.drivers.specs.declared.cutting_plane_optim.OptimStop.{OptimStop}
use Rattle.std.specs.Prelude.{ℕ, ◌≡◌, refl, Bool, true, false, ◌⊎◌, Err, Ok, Result}
use Rattle.std.proofs.Common.{sym, subst, ◌∙◌, true≢false, inl, inr}
use Rattle.std.proofs.Math.Path.{ap}
use mathlib.Core.List.{List}
use Rattle.std.proofs.Math.Dec.{eqb}
use Rattle.std.specs.Float.Ieee.{Float}
use Rattle.numbers.specs.declared.refusal.Refusal.{Refusal}
use Rattle.numbers.specs.laws.Refusal.{both_sound, of_test, of_chain, by_tests}
use Rattle.oracles.specs.laws.CursorRule.{NotSix, not_six}
use Rattle.drivers.specs.CuttingPlane.{State, check_of, check_state, run_tests}
use Rattle.drivers.specs.CuttingPlaneOptim.{OptimState, OptimEnd, plain, end_of, optim_answer, halted, optim_refused as not_run}
use Rattle.drivers.specs.CuttingPlaneFeas.{feas_answer}
use Rattle.drivers.specs.Numbered.{optim_number}
use Rattle.drivers.specs.laws.RunEnds.{run_ends}
use Rattle.drivers.specs.laws.OptimEnds.{optim_run_ends}
use Rattle.drivers.specs.declared.answer.Answer.{Answer}
use Rattle.drivers.specs.declared.cutting_plane.Options.{Options}

abbrev is_refused : Result Answer Refusal → Bool
is_refused (Ok a) = false
is_refused (Err why) = true

abbrev is_refused_optim : Result Answer OptimStop → Bool
is_refused_optim (Ok a) = false
is_refused_optim (halted a) = false
is_refused_optim (not_run why) = true

abbrev pub was_halted : Result Answer OptimStop → Bool
was_halted (Ok a) = false
was_halted (halted a) = true
was_halted (not_run why) = false

-- the tests before a run refuse by 1 to 4, and 11
run_not_six : (rows : ℕ) (table : List Float) (s : State) (best : List Float) → NotSix (run_tests rows table s best)
unfolding check_of
run_not_six rows table s best = of_chain NotSix _ _ (not_six s.oracle s.ell.ndim rows _) (of_test NotSix _ _ _ (record { no = refl }) (record { no = refl }))

module _ (options : Options) (rows : ℕ) (table : List Float) where
  -- `cutting_plane_feas`
  pub feas_refused : (s : State) (best : List Float) (why : Refusal) → (feas_answer options rows table s best).0 ≡ Err why → feas_answer options rows table s best ≡ (Err why, s, best)
  unfolding feas_answer
  feas_refused s best why =
      by_tests P (run_tests rows table s best) _ _ (λ w place e. back w)
      (λ e h. absurd (true≢false (sym (ap is_refused h) ∙ ap is_refused (run_ends rows table options.tolerance options.max_iters 0 s (both_sound (check_state rows table s) _ e).0).answer_is)))
    where
      P : Result Answer Refusal × State × List Float → Type 0
      P r = r.0 ≡ Err why → r ≡ (Err why, s, best)

      back : (w : Refusal) → P (Err w, s, best)
      back w h = ap (λ (a : (Result Answer Refusal)). (a, s, best)) h

  -- `cutting_plane_optim`
  pub optim_refused : (s : OptimState) (why : Refusal) → (optim_answer options rows table s).answer ≡ not_run why → optim_answer options rows table s ≡ end_of (not_run why) s
  unfolding optim_answer
  optim_refused s why =
      by_tests P (run_tests rows table (plain s) s.best) _ _ (λ w place e. back w)
      (λ e h.
      let r = optim_run_ends rows table s 0 (both_sound (check_state rows table (plain s)) _ e).0 options.tolerance options.max_iters in
      absurd (true≢false (sym (ap is_refused_optim h) ∙ begun _ r.answer r.outcome)))
    where
      P : OptimEnd → Type 0
      P r = r.answer ≡ not_run why → r ≡ end_of (not_run why) s

      back : (w : Refusal) → P (end_of (not_run w) s)
      back w h = ap (λ (a : (Result Answer OptimStop)). end_of a s) h

      begun : (a : (Result Answer OptimStop)) (d : Answer) → ((a ≡ Ok d) × (optim_number a ≡ 0)) ⊎ ((a ≡ halted d) × (optim_number a ≡ 6)) → is_refused_optim a ≡ false
      begun a d (inl e) = ap is_refused_optim e.0
      begun a d (inr e) = ap is_refused_optim e.0

  -- the number 6 is told of a run that was halted, and of no other
  pub six_halted : (s : OptimState) → eqb (optim_number (optim_answer options rows table s).answer) 6 ≡ was_halted (optim_answer options rows table s).answer
  unfolding optim_answer
  six_halted s =
      by_tests P (run_tests rows table (plain s) s.best) _ _ (λ w place e. (subst NotSix e (run_not_six rows table (plain s) s.best)).no)
      (λ e.
      let r = optim_run_ends rows table s 0 (both_sound (check_state rows table (plain s)) _ e).0 options.tolerance options.max_iters in
      begun _ r.answer r.outcome)
    where
      P : OptimEnd → Type 0
      P r = eqb (optim_number r.answer) 6 ≡ was_halted r.answer

      begun : (a : (Result Answer OptimStop)) (d : Answer) → ((a ≡ Ok d) × (optim_number a ≡ 0)) ⊎ ((a ≡ halted d) × (optim_number a ≡ 6)) → eqb (optim_number a) 6 ≡ was_halted a
      begun a d (inl e) = rw e.0 refl
      begun a d (inr e) = rw e.0 refl
