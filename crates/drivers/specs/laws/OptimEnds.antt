-- A run of `cutting_plane_optim` that passes its tests ends, or is halted by refusal 6 and by nothing else. Assumes nothing.
use Rattle.numbers.specs.declared.refusal.Refusal.{Refusal}
use Rattle.numbers.specs.declared.cut.CutStatus.{CutStatus}
use Rattle.numbers.specs.Refusal.{Sound, number_of}
use Prim.Native.Nat.{ℕ, zero, suc, ◌≤◌, ◌<◌, ◌+◌}
use Rattle.std.specs.Prelude.{◌≡◌, refl, true, false, List, ◌⊎◌, length, Float, Err, Ok, Result}
use Rattle.std.proofs.Common.{sym, ap, subst, ◌∙◌, inr, arith, le-leb}
use Rattle.std.proofs.Math.Logic.{inl}
use Rattle.oracles.specs.Verdict.{feasible, judge, no_stop_value}
use Rattle.drivers.specs.CuttingPlaneOptim.{OptimState, OptimEnd, plain, end_of, optim_step, optim_goes_on, optim_ended, optim_run, optim_answer, halted}
use Rattle.drivers.specs.CuttingPlane.{check_state, run_tests}
use Rattle.drivers.specs.Numbered.{optim_number}
use Rattle.drivers.specs.laws.OptimSound.{offer_asked, OptimStepped, optim_step_sound}
use Rattle.drivers.specs.laws.OptimBest.{Best, best_later, BeforeStep, start, next}
use Rattle.drivers.specs.declared.answer.Answer.{Answer}
use Rattle.drivers.specs.declared.cutting_plane.Options.{Options}
use Rattle.numbers.specs.laws.Pick.{by_test}
use Rattle.numbers.specs.laws.Refusal.{held, at_next, accepts}

-- A run that began with s₀ at step k₀ has answered r after the steps k, k + 1, .. of which so many were left: it has ended, or was halted by 6 at one of them.
-- It leaves what stood before a step: the one after the last. Where it is halted, that is the halted step itself, which is refused by 6, on a centre that is feasible for gamma while no stop value compares.
pub record OptimRunEnded (rows : ℕ) (table : List Float) (s₀ : OptimState) (k₀ left k : ℕ) (r : OptimEnd) : Type 0 where
  pub answer : Answer
  pub outcome : ((r.answer ≡ Ok answer) × (optim_number r.answer ≡ 0)) ⊎ ((r.answer ≡ halted answer) × (optim_number r.answer ≡ 6))
  pub steps_from : k ≤ answer.steps
  pub steps_within : answer.steps ≤ k + left
  pub final : OptimState
  pub leaves_it : r ≡ end_of r.answer final
  pub found_is : answer.found ≡ final.found
  pub until : ℕ
  pub going : BeforeStep rows table s₀ k₀ until final
  pub until_within : until ≤ suc answer.steps
  pub halted_within : optim_number r.answer ≡ 6 → answer.steps < k + left
  pub halted_at : optim_number r.answer ≡ 6 → until ≡ answer.steps
  pub halted_by : optim_number r.answer ≡ 6 → number_of (optim_step rows table final).0 ≡ 6
  pub halted_where : optim_number r.answer ≡ 6 → (judge (offer_asked rows table final) ≡ feasible) × (no_stop_value (offer_asked rows table final) ≡ true)

module _ (rows : ℕ) (table : List Float) (s₀ : OptimState) (k₀ : ℕ) where
  -- a step that is the last
  last_step : (left k : ℕ) (s s' : OptimState) (u : (Result CutStatus Refusal)) → BeforeStep rows table s₀ k₀ k s → BeforeStep rows table s₀ k₀ (suc k) s' → OptimStepped rows table s (u, s')
      → number_of (optim_step rows table s).0 ≡ number_of u → OptimRunEnded rows table s₀ k₀ (suc left) k (end_of (optim_ended u s'.found k) s')
  last_step left k s s' (Ok status) g g' h met = record {
    answer = record { found = s'.found; steps = k };
    outcome = inl (refl, refl);
    steps_from = omega arith;
    steps_within = omega arith;
    final = s';
    leaves_it = refl;
    found_is = refl;
    until = suc k;
    going = g';
    until_within = omega arith;
    halted_within = λ e. absurd (omega (arith, e));
    halted_at = λ e. absurd (omega (arith, e));
    halted_by = λ e. absurd (omega (arith, e));
    halted_where = λ e. absurd (omega (arith, e));
  }
  last_step left k s s' (Err why) g g' h met =
      let halt = h.halts why refl in
      record {
        answer = record { found = s'.found; steps = k };
        outcome = inr (refl, refl);
        steps_from = omega arith;
        steps_within = omega arith;
        final = s;
        leaves_it = ap (λ (z : OptimState). end_of (halted (record { found = s'.found; steps = k })) z) halt.same;
        found_is = ap (λ (z : OptimState). z.found) halt.same;
        until = k;
        going = g;
        until_within = omega arith;
        halted_within = λ _. omega arith;
        halted_at = λ _. refl;
        halted_by = λ _. met ∙ halt.six;
        halted_where = λ _. (halt.centre_feasible, halt.no_value);
      }

  run_on : (tolerance : Float) (left k : ℕ) (s : OptimState) → BeforeStep rows table s₀ k₀ k s → OptimRunEnded rows table s₀ k₀ left k (optim_run rows table tolerance left k s)
  unfolding optim_run
  run_on tolerance zero k s g = record {
    answer = record { found = s.found; steps = k };
    outcome = inl (refl, refl);
    steps_from = omega arith;
    steps_within = omega arith;
    final = s;
    leaves_it = refl;
    found_is = refl;
    until = k;
    going = g;
    until_within = omega arith;
    halted_within = λ e. absurd (omega (arith, e));
    halted_at = λ e. absurd (omega (arith, e));
    halted_by = λ e. absurd (omega (arith, e));
    halted_where = λ e. absurd (omega (arith, e));
  }
  run_on tolerance (suc left) k s g =
      let r = optim_step rows table s in
      let h = optim_step_sound rows table s g.sound in
      let g' = next rows table s₀ k₀ k s g in
      by_test (λ z. OptimRunEnded rows table s₀ k₀ (suc left) k z) (optim_goes_on r.0 r.1.ell.tsq tolerance) (optim_run rows table tolerance left (suc k) r.1) (end_of (optim_ended r.0 r.1.found k) r.1)
      (λ _.
      let e = run_on tolerance left (suc k) r.1 g' in
      record {
        answer = e.answer;
        outcome = e.outcome;
        steps_from = omega (arith, e.steps_from);
        steps_within = omega (arith, e.steps_within);
        final = e.final;
        leaves_it = e.leaves_it;
        found_is = e.found_is;
        until = e.until;
        going = e.going;
        until_within = e.until_within;
        halted_within = λ t. omega (arith, e.halted_within t);
        halted_at = e.halted_at;
        halted_by = e.halted_by;
        halted_where = e.halted_where;
      })
      (λ _. last_step left k s r.1 r.0 g g' h refl)

  pub optim_run_ends : check_state rows table (plain s₀) ≡ Sound → (tolerance : Float) (left : ℕ) → OptimRunEnded rows table s₀ k₀ left k₀ (optim_run rows table tolerance left k₀ s₀)
  optim_run_ends sound tolerance left = run_on tolerance left k₀ s₀ (start rows table s₀ k₀ sound)

-- so does the whole call, where x_best has room for the point
pub optim_answered : (options : Options) (rows : ℕ) (table : List Float) (s : OptimState) → check_state rows table (plain s) ≡ Sound → s.ell.ndim ≤ length s.best
    → OptimRunEnded rows table s 0 options.max_iters 0 (optim_answer options rows table s)
unfolding optim_answer
optim_answered options rows table s sound room =
    subst (λ z. OptimRunEnded rows table s 0 options.max_iters 0 z)
    (accepts _ _ (run_tests rows table (plain s) s.best) (at_next (sym sound) (held _ _ (le-leb s.ell.ndim (length s.best) room))) refl)
    (optim_run_ends rows table s 0 sound options.tolerance options.max_iters)

-- and a point that it has found is the best: the centre of one of its steps
pub optim_best : (options : Options) (rows : ℕ) (table : List Float) (s : OptimState) (sound : check_state rows table (plain s) ≡ Sound) (room : s.ell.ndim ≤ length s.best) → s.found ≡ false
    → let r = optim_answer options rows table s in
    let e = optim_answered options rows table s sound room in
    e.answer.found ≡ true → Best rows table s (suc e.answer.steps) r.gamma r.best
optim_best options rows table s sound room none t =
    let r = optim_answer options rows table s in
    let e = optim_answered options rows table s sound room in
    best_later rows table s e.going.taken (suc e.answer.steps) e.final.gamma r.gamma e.final.best r.best (omega (arith, e.until_within, e.going.k_is))
    (ap (λ (z : OptimEnd). z.gamma) e.leaves_it) (ap (λ (z : OptimEnd). z.best) e.leaves_it) (e.going.held.best_is none room (sym e.found_is ∙ t))
