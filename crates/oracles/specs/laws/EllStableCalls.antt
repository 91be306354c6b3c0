-- Laws of the calls of EllStable, for a caller that goes on from what they answer. Assumes nothing.
use Rattle.std.specs.Prelude.{◌≡◌, refl, true, List, ℕ, suc, ◌≤◌, ◌<◌, ◌*◌, eqb, length, Ok, Err}
use Rattle.std.proofs.Common.{sym, ◌∙◌, arith, eqb-true, eq-eqb}
use Rattle.std.proofs.Math.Path.{subst}
use Rattle.std.specs.Float.Ieee.{Float}
use Rattle.numbers.specs.F64.{◌⊕◌, ◌⊖◌, ◌⊗◌, ◌⊘◌}
use Rattle.numbers.specs.Pick.{pick}
use Rattle.numbers.specs.Arr.{is_dimension, tab}
use Rattle.numbers.specs.laws.Arr.{length_tab}
use Rattle.numbers.specs.laws.Pick.{and_parts}
use Rattle.numbers.specs.laws.Refusal.{held, at_next}
use Rattle.numbers.specs.EllCalc.{made}
use Rattle.numbers.specs.declared.cut.CutAnswer.{CutAnswer}
use Rattle.numbers.specs.declared.cut.CutChoice.{CutChoice}
use Rattle.numbers.specs.declared.cut.CutStatus.TheVariants.{Success}
use Rattle.oracles.specs.Matrix.{nth, at}
use Rattle.oracles.specs.EllCommon.{is_tiny, answer_of, status_of}
use Rattle.oracles.specs.laws.EllCommon.{length_centre, centre_at, new_made, new_is, call_of, call_is, update_says, call_accepted, call_leaves, call_failed, call_succeeded}
use Rattle.oracles.specs.EllStable.{StableBuffers, fresh_stable, new_ell_stable_answer, forward, inv_ml_g_of, inv_md_inv_ml_g_of, omega_of, backward, t_start, t_of, succeeded, stable_after, stable_work, stable_update_of, stable_fits, stable_tests, stable_update_answer}
use Rattle.oracles.specs.laws.EllStable.{length_lowered, lowered_high, length_factors, factors_low, factors_diagonal, factors_high}
use Rattle.oracles.specs.declared.ell_common.CutStrategy.{CutStrategy}
use Rattle.oracles.specs.declared.ell_stable.EllStable.{EllStable}
use Rattle.oracles.specs.declared.ell_stable.EllStableUpdate.{EllStableUpdate}

-- ---- a new one

-- what `new_with_matrix` makes, and of which n
pub record NewStableIs (n : ℕ) (kappa : Float) (e : EllStable) : Type 0 where
  pub dimension : is_dimension n ≡ true
  pub is : e ≡ fresh_stable n kappa
  pub parallel : e.helper.use_parallel_cut ≡ true

pub stable_new : (n : ℕ) (kappa : Float) (e : EllStable) → new_ell_stable_answer n kappa ≡ Ok e → NewStableIs n kappa e
unfolding new_ell_stable_answer made
stable_new n kappa e h =
    let p = new_is Err (Ok (fresh_stable n kappa)) n (Ok e) (λ why k. let z : ◌≡◌ {A = ℕ} 0 1 = cc in omega arith) h in
    let q : e ≡ fresh_stable n kappa = cc in
    record { dimension = p.0; is = q; parallel = rw q }

-- every n in its range has one
pub stable_makes : (n : ℕ) (kappa : Float) → is_dimension n ≡ true → new_ell_stable_answer n kappa ≡ Ok (fresh_stable n kappa)
unfolding new_ell_stable_answer
stable_makes n kappa = new_made Err (Ok (fresh_stable n kappa)) n

-- ---- the lengths that n says

pub record StableLong (n : ℕ) (b : StableBuffers) : Type 0 where
  pub mq_long : length b.mq ≡ n * n
  pub xc_long : length b.xc ≡ n
  pub inv_ml_g_long : length b.inv_ml_g ≡ n
  pub inv_md_inv_ml_g_long : length b.inv_md_inv_ml_g ≡ n
  pub gg_t_long : length b.gg_t ≡ n
  pub g_t_long : length b.g_t ≡ n

-- from the test of them, and back
pub stable_long : (n : ℕ) (grad : List Float) (b : StableBuffers) → stable_fits n grad b ≡ true → StableLong n b
stable_long n grad b h =
    let p₆ = and_parts _ (eqb (length b.g_t) n) h in
    let p₅ = and_parts _ (eqb (length b.gg_t) n) p₆.0 in
    let p₄ = and_parts _ (eqb (length b.inv_md_inv_ml_g) n) p₅.0 in
    let p₃ = and_parts _ (eqb (length b.inv_ml_g) n) p₄.0 in
    let p₂ = and_parts _ (eqb (length b.xc) n) p₃.0 in
    let p₁ = and_parts (eqb (length grad) n) (eqb (length b.mq) (n * n)) p₂.0 in
    record {
      mq_long = eqb-true _ (n * n) p₁.1;
      xc_long = eqb-true _ n p₂.1;
      inv_ml_g_long = eqb-true _ n p₃.1;
      inv_md_inv_ml_g_long = eqb-true _ n p₄.1;
      gg_t_long = eqb-true _ n p₅.1;
      g_t_long = eqb-true _ n p₆.1;
    }

long_fits : (n : ℕ) (grad : List Float) (b : StableBuffers) → length grad ≡ n → StableLong n b → stable_fits n grad b ≡ true
long_fits n grad b h l =
    rw (
      eq-eqb (length grad) n h,
      eq-eqb (length b.mq) (n * n) l.mq_long,
      eq-eqb (length b.xc) n l.xc_long,
      eq-eqb (length b.inv_ml_g) n l.inv_ml_g_long,
      eq-eqb (length b.inv_md_inv_ml_g) n l.inv_md_inv_ml_g_long,
      eq-eqb (length b.gg_t) n l.gg_t_long,
      eq-eqb (length b.g_t) n l.g_t_long,
    )

-- ---- what an update works out

abbrev pub stable_omega : EllStable → List Float → StableBuffers → Float
stable_omega e grad b = omega_of e.ndim b.mq grad

-- the running number of a success's rank-one update, with the calculator's answer a
abbrev pub stable_t : EllStable → List Float → StableBuffers → CutAnswer → ℕ → Float
stable_t e grad b a j = t_of e.ndim b.mq grad (t_start (stable_omega e grad b) a.params.sigma) j

-- ---- what an update says and leaves, in r

-- no refusal: the definition's status, and tsq as it was where omega is tiny
pub record StableAnswered (e : EllStable) (s : CutStrategy) (grad : List Float) (beta : CutChoice) (b : StableBuffers) (r : EllStableUpdate × StableBuffers) : Type 0 where
  pub is : r ≡ stable_update_of e s grad beta b
  pub answer_is : r.0.answer ≡ Ok (status_of (stable_work e s grad beta b))
  pub tsq_is : r.0.ell.tsq ≡ pick (is_tiny (stable_omega e grad b)) e.tsq (e.kappa ⊗ stable_omega e grad b)

-- no success: centre and kappa as they came, and of the matrix the diagonal and what lies above it
pub record StableKept (e : EllStable) (b : StableBuffers) (r : EllStableUpdate × StableBuffers) : Type 0 where
  pub kappa_is : r.0.ell.kappa ≡ e.kappa
  pub xc_is : r.1.xc ≡ b.xc
  pub mq_at : (i j : ℕ) → i ≤ j → j < e.ndim → at e.ndim r.1.mq i j ≡ at e.ndim b.mq i j

-- a success, with the calculator's answer a: the factors' entries on the diagonal, above it and below it, and the centre's
pub record StableSucceeded (e : EllStable) (grad : List Float) (b : StableBuffers) (a : CutAnswer) (kappa : Float) (c : StableBuffers) : Type 0 where
  pub kappa_is : kappa ≡ e.kappa ⊗ a.params.delta
  pub diagonal_at : (j : ℕ) → j < e.ndim
      → at e.ndim c.mq j j ≡ at e.ndim b.mq j j ⊗ (stable_t e grad b a j ⊘ stable_t e grad b a (suc j))
  pub above_at : (j l : ℕ) → j < l → l < e.ndim
      → at e.ndim c.mq j l ≡ at e.ndim b.mq j l ⊕ inv_md_inv_ml_g_of e.ndim b.mq grad j ⊘ stable_t e grad b a (suc j) ⊗ forward e.ndim b.mq grad l (suc j)
  pub below_at : (l j : ℕ) → j < l → l < e.ndim → at e.ndim c.mq l j ≡ at e.ndim b.mq j l ⊗ inv_ml_g_of e.ndim b.mq grad j
  pub xc_at : (i : ℕ) → i < length b.xc
      → nth c.xc i ≡ nth b.xc i ⊖ a.params.rho ⊘ stable_omega e grad b ⊗ nth (backward e.ndim b.mq (tab (inv_md_inv_ml_g_of e.ndim b.mq grad) e.ndim) e.ndim) i

module _ (e : EllStable) (s : CutStrategy) (grad : List Float) (beta : CutChoice) (b : StableBuffers) where
  -- what holds of the frame's call holds of this one
  by_call : (P : EllStableUpdate × StableBuffers → Type 0) → P (stable_after e (call_of (stable_tests e.ndim grad b) (stable_work e s grad beta b)))
      → P (stable_update_answer e s grad beta b)
  unfolding stable_update_of
  by_call P = subst P (sym (call_is (stable_after e) (stable_tests e.ndim grad b) (stable_work e s grad beta b)))

  -- n and the calculators stay as they came, whatever the answer
  pub stable_same : ((stable_update_answer e s grad beta b).0.ell.ndim ≡ e.ndim) × ((stable_update_answer e s grad beta b).0.ell.helper ≡ e.helper)
  stable_same = by_call (λ r. (r.0.ell.ndim ≡ e.ndim) × (r.0.ell.helper ≡ e.helper)) (refl, refl)

  -- lengths that fit a call fit the next one, with any gradient of n numbers
  pub stable_again : stable_fits e.ndim grad b ≡ true → (grad' : List Float) → length grad' ≡ e.ndim → stable_fits e.ndim grad' (stable_update_answer e s grad beta b).1 ≡ true
  unfolding succeeded
  stable_again h grad' l =
      let n = e.ndim in
      let L = stable_long n grad b h in
      long_fits n grad' (stable_update_answer e s grad beta b).1 l
      (by_call (λ r. StableLong n r.1)
      (call_leaves (stable_work e s grad beta b) (stable_tests n grad b) (StableLong n) L
      (record { mq_long = length_lowered n b.mq grad; xc_long = L.xc_long; inv_ml_g_long = length_tab _ n; inv_md_inv_ml_g_long = length_tab _ n; gg_t_long = length_tab _ n; g_t_long = L.g_t_long })
      (record {
        mq_long = length_factors n b.mq grad _;
        xc_long = length_centre b.xc _ _ ∙ L.xc_long;
        inv_ml_g_long = length_tab _ n;
        inv_md_inv_ml_g_long = length_tab _ n;
        gg_t_long = length_tab _ n;
        g_t_long = length_tab _ n;
      })))

  -- a call with n in its range and lengths that fit is never refused
  pub stable_answers : is_dimension e.ndim ≡ true → stable_fits e.ndim grad b ≡ true → StableAnswered e s grad beta b (stable_update_answer e s grad beta b)
  unfolding stable_update_of
  stable_answers d f =
      let w = stable_work e s grad beta b in
      by_call (StableAnswered e s grad beta b)
      (rw (call_accepted w (stable_tests e.ndim grad b) (at_next (held _ _ d) (held _ _ f)))
      (record { is = refl; answer_is = (update_says w).0; tsq_is = (update_says w).1 }))

  -- any answer but Success, a refusal too, keeps centre and kappa, and the matrix but for its strict lower triangle
  pub stable_failed : ((stable_update_answer e s grad beta b).0.answer ≡ Ok Success → ⊥) → StableKept e b (stable_update_answer e s grad beta b)
  stable_failed =
      by_call (λ r. (r.0.answer ≡ Ok Success → ⊥) → StableKept e b r)
      (λ h. let k = call_failed (stable_work e s grad beta b) (stable_tests e.ndim grad b)
      (λ c. (c.xc ≡ b.xc) × ((i j : ℕ) → i ≤ j → j < e.ndim → at e.ndim c.mq i j ≡ at e.ndim b.mq i j))
      (refl, λ i j l m. refl) (refl, λ i j l m. lowered_high e.ndim b.mq grad i j (omega arith) m l) h in
      record { kappa_is = k.0; xc_is = k.1.0; mq_at = k.1.1 })

  -- Success gives the entries in closed form
  pub stable_succeeded : (stable_update_answer e s grad beta b).0.answer ≡ Ok Success
      → StableSucceeded e grad b (answer_of (stable_work e s grad beta b)) (stable_update_answer e s grad beta b).0.ell.kappa (stable_update_answer e s grad beta b).1
  unfolding succeeded
  stable_succeeded =
      by_call (λ r. r.0.answer ≡ Ok Success → StableSucceeded e grad b (answer_of (stable_work e s grad beta b)) r.0.ell.kappa r.1)
      (λ h. subst (λ (p : Float × StableBuffers). StableSucceeded e grad b (answer_of (stable_work e s grad beta b)) p.0 p.1)
      (sym (call_succeeded (stable_work e s grad beta b) (stable_tests e.ndim grad b) h))
      (record {
        kappa_is = refl;
        diagonal_at = factors_diagonal e.ndim b.mq grad _;
        above_at = factors_high e.ndim b.mq grad _;
        below_at = λ l j m k. factors_low e.ndim b.mq grad _ l j k m;
        xc_at = centre_at b.xc _ _;
      }))
