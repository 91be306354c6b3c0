-- A run from its next step: it goes on with what the step left, or ends there. Assumes nothing.
use Rattle.drivers.specs.declared.cutting_plane_optim.OptimStop.{OptimStop}
use Rattle.drivers.specs.declared.answer.Answer.{Answer}
use Rattle.numbers.specs.declared.refusal.Refusal.{Refusal}
use Rattle.numbers.specs.declared.cut.CutStatus.{CutStatus}
use Rattle.std.specs.Prelude.{Ok, Result}
use mathlib.Core.Path.{◌≡◌, sym, ap, ◌∙◌}
use mathlib.Core.Bool.{true, false}
use mathlib.Core.List.{List}
use Prim.Native.Nat.{ℕ, suc, ◌≤◌, ◌<◌, ◌+◌, ◌-◌}
use native.Mathlib.Numerals.{add-one}
use lib.Ieee.{Float}
use Rattle.numbers.specs.Pick.{pick}
use Rattle.numbers.specs.laws.Pick.{is_hit, is_skip}
use Rattle.drivers.specs.CuttingPlaneOptim.{OptimState, end_of, optim_step, optim_goes_on, optim_ended, optim_run}
use Rattle.drivers.proofs.cutting_plane.Left.{one_less, none_left}

module _ (rows : ℕ) (table : List Float) (tolerance : Float) (most : ℕ) where
  module _ (k : ℕ) (s s' : OptimState) (u : (Result CutStatus Refusal)) (h : k < most) (e : (u, s') ≡ optim_step rows table s) where
    optim_turn : optim_run rows table tolerance (most - k) k s
        ≡ pick (optim_goes_on u s'.ell.tsq tolerance) (optim_run rows table tolerance (most - (k + 1)) (suc k) s') (end_of (optim_ended u s'.found k) s')
    unfolding optim_run
    optim_turn = rw (one_less most k h, ← e)

    pub optim_more : optim_goes_on u s'.ell.tsq tolerance ≡ true → optim_run rows table tolerance (most - k) k s ≡ optim_run rows table tolerance (most - (k + 1)) (k + 1) s'
    optim_more g = optim_turn ∙ is_hit _ _ _ g ∙ rw (add-one k)

    pub optim_ends : optim_goes_on u s'.ell.tsq tolerance ≡ false → (r : (Result Answer OptimStop)) → r ≡ optim_ended u s'.found k → end_of r s' ≡ optim_run rows table tolerance (most - k) k s
    optim_ends g r q = ap (λ (a : (Result Answer OptimStop)). end_of a s') q ∙ sym (optim_turn ∙ is_skip _ _ _ g)

  pub optim_out : (k : ℕ) (s : OptimState) → most ≤ k → optim_run rows table tolerance (most - k) k s ≡ end_of (Ok (record { found = s.found; steps = k })) s
  unfolding optim_run
  optim_out k s h = rw (none_left most k h)
