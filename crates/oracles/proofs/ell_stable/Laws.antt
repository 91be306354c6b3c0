-- What `prepare` and `succeed` leave, and the ways through an update of ell_stable. Assumes nothing.
use mathlib.Core.Path.{◌≡◌, ap, ◌∙◌}
use Rattle.std.specs.Prelude.{Ok}
use mathlib.Core.Bool.{Bool, true, false, not}
use mathlib.Core.List.{List}
use Prim.Native.Nat.{ℕ}
use native.Mathlib.Nat.{le_refl}
use lib.Ieee.{Float}
use Rattle.numbers.specs.F64.{◌⊕◌, ◌⊖◌, ◌⊗◌, ◌⊘◌, 0ᶠ, 1ᶠ}
use Rattle.numbers.specs.Arr.{tab}
use Rattle.numbers.specs.declared.cut.CutAnswer.{CutAnswer}
use Rattle.numbers.specs.declared.cut.CutChoice.{CutChoice}
use Rattle.numbers.specs.declared.cut.CutStatus.TheVariants.{NoEffect}
use Rattle.oracles.specs.Matrix.{nth, at, total}
use Rattle.oracles.specs.EllCommon.{calc_of, is_tiny, is_success, centre_of}
use Rattle.oracles.specs.declared.ell_common.CutStrategy.{CutStrategy}
use Rattle.oracles.specs.declared.ell_stable.EllStable.{EllStable}
use Rattle.oracles.specs.declared.ell_stable.EllStableUpdate.{EllStableUpdate}
use Rattle.oracles.specs.EllStable.{StableBuffers, inv_ml_g_of, inv_md_inv_ml_g_of, gg_t_of, omega_of, lowered, backward, t_start, rank_one_factors, succeeded}
use Rattle.oracles.specs.laws.EllStable.{less_columns, factors_after, scaled, products, summed, columns_lowered, factors_lowered, backward_lowered}
use Rattle.oracles.specs.EllCommon.{Change, change, update_of}
use Rattle.oracles.specs.EllStable.{stable_buffers, stable_after, stable_work}
use Rattle.oracles.proofs.ell_common.Laws.{no_effect, fails, succeeds}

-- ---- what `prepare` and `succeed` leave, from what their calls left

pub prepare_done : (n : ℕ) (mq g w mq' w' z gg : List Float) (m : ℕ) (omega : Float) → w ≡ g → mq' ≡ lowered n mq w → w' ≡ tab (inv_ml_g_of n mq w) n
    → z ≡ tab (λ i. nth w' i ⊗ at n mq' i i) n → m ≡ n → omega ≡ total ◌⊕◌ 0ᶠ (λ i. nth z i ⊗ nth w' i) m → gg ≡ tab (λ i. nth z i ⊗ nth w' i) m
    → (omega ≡ omega_of n mq g) × (mq' ≡ lowered n mq g) × (w' ≡ tab (inv_ml_g_of n mq g) n) × (z ≡ tab (inv_md_inv_ml_g_of n mq g) n) × (gg ≡ tab (gg_t_of n mq g) n)
prepare_done n mq g w mq' w' z gg m omega a b c d e f h =
    let b' : mq' ≡ lowered n mq g = b ∙ ap (lowered n mq) a in
    let c' : w' ≡ tab (inv_ml_g_of n mq g) n = c ∙ ap (λ (x : List Float). tab (inv_ml_g_of n mq x) n) a in
    let d' : z ≡ tab (inv_md_inv_ml_g_of n mq g) n = d ∙ rw (b', c') (scaled n mq g) in
    (f ∙ rw (e, c', d') (summed n mq g), b', c', d', h ∙ rw (e, c', d') (products n mq g))

pub succeed_done : (n : ℕ) (mq z grad xc : List Float) (omega rho sigma : Float) (q q' v v' mq' xc' : List Float) → q ≡ z → q' ≡ backward n mq q n
    → xc' ≡ centre_of xc (rho ⊘ omega) q' → v ≡ grad → mq' ≡ factors_after n mq z v (omega ⊘ (sigma ⊘ (1ᶠ ⊖ sigma))) → v' ≡ tab (λ l. less_columns n mq v l l) n
    → (xc' ≡ centre_of xc (rho ⊘ omega) (backward n mq z n)) × (mq' ≡ factors_after n mq z grad (t_start omega sigma)) × (v' ≡ tab (λ l. less_columns n mq grad l l) n)
unfolding t_start
succeed_done n mq z grad xc omega rho sigma q q' v v' mq' xc' a b c d e f = (c ∙ rw (b, a), e ∙ rw d, f ∙ rw d)

-- ---- the ways through an update, from what its calls answered

module _ (e : EllStable) (s : CutStrategy) (grad : List Float) (beta : CutChoice) (b : StableBuffers) (r : EllStableUpdate) (omega : Float) (mq w z gg : List Float) (tiny : Bool)
    (o : (omega ≡ omega_of e.ndim b.mq grad) × (mq ≡ lowered e.ndim b.mq grad) × (w ≡ tab (inv_ml_g_of e.ndim b.mq grad) e.ndim)
    × (z ≡ tab (inv_md_inv_ml_g_of e.ndim b.mq grad) e.ndim) × (gg ≡ tab (gg_t_of e.ndim b.mq grad) e.ndim))
    (t : tiny ≡ is_tiny omega) where
  -- what `with_status` answered, with the slices
  left : (c : Change StableBuffers) → r ≡ (stable_after e c).0 → c ≡ update_of (stable_work e s grad beta b) → (r, c.buffers) ≡ stable_after e (update_of (stable_work e s grad beta b))
  left c q h = ap (λ (x : EllStableUpdate). (x, c.buffers)) q ∙ ap (stable_after e) h

  pub stable_no_effect : tiny ≡ true → r ≡ (stable_after e (change (Ok NoEffect) e.kappa e.tsq b)).0
      → (r, stable_buffers mq b.xc w z gg b.g_t) ≡ stable_after e (update_of (stable_work e s grad beta b))
  stable_no_effect h q = left _ q (no_effect (stable_work e s grad beta b) _ omega tiny o.0 t h (rw (o.1, o.2, o.3, o.4)))

  module _ (a : CutAnswer) (ok : Bool) (k : a ≡ calc_of s e.helper beta (e.kappa ⊗ omega)) (u : ok ≡ is_success a.status) (h : tiny ≡ false) where
    pub stable_fails : not ok ≡ true → r ≡ (stable_after e (change (Ok a.status) e.kappa (e.kappa ⊗ omega) b)).0
        → (r, stable_buffers mq b.xc w z gg b.g_t) ≡ stable_after e (update_of (stable_work e s grad beta b))
    stable_fails f q = left _ q (fails (stable_work e s grad beta b) _ omega tiny o.0 t a ok k u h f (rw (o.1, o.2, o.3, o.4)))

    pub stable_succeeds : (mq' xc' v' : List Float) → not ok ≡ false
        → (xc' ≡ centre_of b.xc (a.params.rho ⊘ omega) (backward e.ndim mq z e.ndim))
        × (mq' ≡ factors_after e.ndim mq z grad (t_start omega a.params.sigma)) × (v' ≡ tab (λ l. less_columns e.ndim mq grad l l) e.ndim)
        → r ≡ (stable_after e (change (Ok a.status) (e.kappa ⊗ a.params.delta) (e.kappa ⊗ omega) b)).0
        → (r, stable_buffers mq' xc' w z gg v') ≡ stable_after e (update_of (stable_work e s grad beta b))
    unfolding succeeded
    stable_succeeds mq' xc' v' f x q =
        let n = e.ndim in
        let xc_is : xc' ≡ centre_of b.xc (a.params.rho ⊘ omega) (backward n b.mq (tab (inv_md_inv_ml_g_of n b.mq grad) n) n) =
        x.0 ∙ rw (o.1, o.3, backward_lowered n b.mq grad (tab (inv_md_inv_ml_g_of n b.mq grad) n) n (le_refl n))
        in
        let mq_is : mq' ≡ rank_one_factors n b.mq grad (t_start omega a.params.sigma) = x.1 ∙ rw (o.1, o.3) (factors_lowered n b.mq grad (t_start omega a.params.sigma)) in
        let v_is : v' ≡ tab (inv_ml_g_of n b.mq grad) n = x.2 ∙ rw o.1 (columns_lowered n b.mq grad) in
        left _ q (succeeds (stable_work e s grad beta b) _ omega tiny o.0 t a ok k u h f (rw (xc_is, mq_is, v_is, o.2, o.3, o.4, ← o.0)))
