-- A run that passes its tests ends with an answer: a point that it finds is feasible, and where it finds none the point that it began with is not. Assumes nothing.
use Rattle.numbers.specs.declared.refusal.Refusal.{Refusal}
use Rattle.numbers.specs.Refusal.{Sound}
use Prim.Native.Nat.{ℕ, zero, suc, ◌+◌, ◌≤◌, ◌<◌}
use Rattle.std.specs.Prelude.{◌≡◌, refl, Bool, true, false, List, Float, Err, None, Ok, Result, Some}
use Rattle.std.proofs.Math.Path.{sym}
use Rattle.std.proofs.Common.{ap, ◌∙◌, true≢false, arith}
use Rattle.oracles.specs.Verdict.{Limits, limits, asked, judge, is_feasible}
use Rattle.drivers.specs.CuttingPlane.{State, check_state}
use Rattle.drivers.specs.CuttingPlaneFeas.{feas_step, goes_on, feas_ended, feas_run, StepAnswer}
use Rattle.drivers.specs.laws.StepSound.{centre_asked, says_feasible, Stepped, step_sound}
use Rattle.drivers.specs.declared.answer.Answer.{Answer}
use Rattle.numbers.specs.laws.Pick.{by_test}

-- whether the centre of a state is feasible
abbrev pub centre_feasible : ℕ → List Float → State → Bool
centre_feasible rows table s = is_feasible (judge (centre_asked rows table s))

-- The steps k, k + 1, .. of which so many are left have ended with an answer, r. Its steps are not before k, and within what was left.
-- A point is found at one of the steps, and the centre that is left is feasible. Where none is found and a step was left, the centre of s is not.
pub record RunEnded (rows : ℕ) (table : List Float) (left k : ℕ) (s : State) (r : Result Answer Refusal × State) : Type 0 where
  pub answer : Answer
  pub answer_is : r.0 ≡ Ok answer
  pub steps_from : k ≤ answer.steps
  pub steps_within : answer.steps ≤ k + left
  pub found_within : answer.found ≡ true → answer.steps < k + left
  pub found_feasible : answer.found ≡ true → centre_feasible rows table r.1 ≡ true
  pub none_feasible : answer.found ≡ false → 1 ≤ left → centre_feasible rows table s ≡ false
  pub ndim_stays : r.1.ell.ndim ≡ s.ell.ndim
  pub limits_stay : limits r.1.oracle ≡ limits s.oracle
  pub sound : check_state rows table r.1 ≡ Sound

module _ (rows : ℕ) (table : List Float) where
  -- what is asked about the centre of s' is what the oracle of s would be asked about it
  pub asked_again : (s s' : State) → s'.ell.ndim ≡ s.ell.ndim → limits s'.oracle ≡ limits s.oracle
      → centre_asked rows table s' ≡ asked s.oracle s.oracle.sp_sq s.ell.ndim rows table s'.buffers.xc
  asked_again s s' n_is l_is =
      ap (λ (n : ℕ). record { n = n; rows = rows; limits = limits s'.oracle; table = table; x = s'.buffers.xc }) n_is
      ∙ ap (λ (l : Limits). record { n = s.ell.ndim; rows = rows; limits = l; table = table; x = s'.buffers.xc }) l_is

  -- a step that is the last
  last_step : (left k : ℕ) (s : State) (answer : StepAnswer) (s' : State) → Stepped rows table s (answer, s') → RunEnded rows table (suc left) k s (feas_ended answer k, s')
  last_step left k s (Ok None) s' h = record {
    answer = record { found = true; steps = k };
    answer_is = refl;
    steps_from = omega arith;
    steps_within = omega arith;
    found_within = λ _. omega arith;
    found_feasible = λ _.
        ap (λ q. is_feasible (judge q))
        (asked_again s s' h.ndim_stays h.limits_stay
        ∙ ap (λ b. asked s.oracle s.oracle.sp_sq s.ell.ndim rows table b.xc) (h.centre_stays refl))
        ∙ sym h.verdict_is;
    none_feasible = λ e _. absurd (true≢false e);
    ndim_stays = h.ndim_stays;
    limits_stay = h.limits_stay;
    sound = h.sound;
  }
  last_step left k s (Ok (Some made)) s' h = record {
    answer = record { found = false; steps = k };
    answer_is = refl;
    steps_from = omega arith;
    steps_within = omega arith;
    found_within = λ e. absurd (true≢false (sym e));
    found_feasible = λ e. absurd (true≢false (sym e));
    none_feasible = λ _ _. sym h.verdict_is;
    ndim_stays = h.ndim_stays;
    limits_stay = h.limits_stay;
    sound = h.sound;
  }
  last_step left k s (Err why) s' h = absurd (true≢false h.not_refused)

  -- a step after which the run goes on, and the run from there
  goes_infeasible : (answer : StepAnswer) (tsq tolerance : Float) → goes_on answer tsq tolerance ≡ true → says_feasible answer ≡ false
  goes_infeasible (Ok None) tsq tolerance e = sym e
  goes_infeasible (Ok (Some made)) tsq tolerance e = refl
  goes_infeasible (Err why) tsq tolerance e = refl

  pub run_ends : (tolerance : Float) (left k : ℕ) (s : State) → check_state rows table s ≡ Sound → RunEnded rows table left k s (feas_run rows table tolerance left k s)
  unfolding feas_run
  run_ends tolerance zero k s sound = record {
    answer = record { found = false; steps = k };
    answer_is = refl;
    steps_from = omega arith;
    steps_within = omega arith;
    found_within = λ e. absurd (true≢false (sym e));
    found_feasible = λ e. absurd (true≢false (sym e));
    none_feasible = λ _ l. absurd (omega (arith, l));
    ndim_stays = refl;
    limits_stay = refl;
    sound = sound;
  }
  run_ends tolerance (suc left) k s sound =
      let r = feas_step rows table s in
      let h = step_sound rows table s sound in
      by_test (λ z. RunEnded rows table (suc left) k s z) (goes_on r.0 r.1.ell.tsq tolerance) (feas_run rows table tolerance left (suc k) r.1) (feas_ended r.0 k, r.1)
      (λ t.
      let e = run_ends tolerance left (suc k) r.1 h.sound in
      record {
        answer = e.answer;
        answer_is = e.answer_is;
        steps_from = omega (arith, e.steps_from);
        steps_within = omega (arith, e.steps_within);
        found_within = λ f. omega (arith, e.found_within f);
        found_feasible = e.found_feasible;
        none_feasible = λ _ _. sym h.verdict_is ∙ goes_infeasible r.0 r.1.ell.tsq tolerance t;
        ndim_stays = e.ndim_stays ∙ h.ndim_stays;
        limits_stay = e.limits_stay ∙ h.limits_stay;
        sound = e.sound;
      })
      (λ _. last_step left k s r.0 r.1 h)
