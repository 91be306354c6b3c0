-- A run from its next step: it goes on with what the step left, or ends there. Assumes nothing.
use Rattle.numbers.specs.declared.refusal.Refusal.{Refusal}
use Rattle.drivers.specs.declared.answer.Answer.{Answer}
use Rattle.std.specs.Prelude.{Ok, Result}
use mathlib.Core.Path.{◌≡◌, sym, ap, ◌∙◌}
use mathlib.Core.Bool.{true, false}
use mathlib.Core.List.{List}
use Prim.Native.Nat.{ℕ, suc, ◌≤◌, ◌<◌, ◌+◌, ◌-◌}
use native.Mathlib.Numerals.{add-one}
use lib.Ieee.{Float}
use Rattle.numbers.specs.Pick.{pick}
use Rattle.numbers.specs.laws.Pick.{is_hit, is_skip}
use Rattle.drivers.specs.CuttingPlane.{State}
use Rattle.drivers.specs.CuttingPlaneFeas.{feas_step, goes_on, feas_ended, feas_run, StepAnswer}
use Rattle.drivers.proofs.cutting_plane.Left.{one_less, none_left}

module _ (rows : ℕ) (table : List Float) (tolerance : Float) (most : ℕ) where
  module _ (k : ℕ) (s s' : State) (answer : StepAnswer) (h : k < most) (e : (answer, s') ≡ feas_step rows table s) where
    turn : feas_run rows table tolerance (most - k) k s
        ≡ pick (goes_on answer s'.ell.tsq tolerance) (feas_run rows table tolerance (most - (k + 1)) (suc k) s') (feas_ended answer k, s')
    unfolding feas_run
    turn = rw (one_less most k h, ← e)

    pub feas_more : goes_on answer s'.ell.tsq tolerance ≡ true → feas_run rows table tolerance (most - k) k s ≡ feas_run rows table tolerance (most - (k + 1)) (k + 1) s'
    feas_more g = turn ∙ is_hit _ _ _ g ∙ rw (add-one k)

    pub feas_ends : goes_on answer s'.ell.tsq tolerance ≡ false → (r : (Result Answer Refusal)) → r ≡ feas_ended answer k → (r, s') ≡ feas_run rows table tolerance (most - k) k s
    feas_ends g r q = ap (λ (a : (Result Answer Refusal)). (a, s')) q ∙ sym (turn ∙ is_skip _ _ _ g)

  pub feas_out : (k : ℕ) (s : State) → most ≤ k → feas_run rows table tolerance (most - k) k s ≡ (Ok (record { found = false; steps = k }), s)
  unfolding feas_run
  feas_out k s h = rw (none_left most k h)
