-- Laws of the calls of Ell, for a caller that goes on from what they answer. Assumes nothing.
use Rattle.std.specs.Prelude.{◌≡◌, true, List, ℕ, ◌≤◌, ◌<◌, ◌*◌, eqb, length, Float, Ok, Err}
use Rattle.std.proofs.Math.Path.{refl, subst}
use Rattle.std.proofs.Common.{sym, ◌∙◌, arith, eqb-true, eq-eqb}
use Rattle.numbers.specs.F64.{◌⊖◌, ◌⊗◌, ◌⊘◌}
use Rattle.numbers.specs.Pick.{pick}
use Rattle.numbers.specs.Arr.{is_dimension, dot_of, mv_of}
use Rattle.numbers.specs.laws.Arr.{length_tab}
use Rattle.numbers.specs.laws.Pick.{and_parts}
use Rattle.numbers.specs.laws.Refusal.{held, at_next}
use Rattle.numbers.specs.EllCalc.{made}
use Rattle.numbers.specs.declared.cut.CutAnswer.{CutAnswer}
use Rattle.numbers.specs.declared.cut.CutChoice.{CutChoice}
use Rattle.numbers.specs.declared.cut.CutStatus.TheVariants.{Success}
use Rattle.oracles.specs.Matrix.{nth, at}
use Rattle.oracles.specs.EllCommon.{is_tiny, answer_of, status_of}
use Rattle.oracles.specs.laws.EllCommon.{length_centre, centre_at, new_made, new_is, call_of, call_is, update_says, update_leaves, call_accepted, call_leaves, call_failed, call_succeeded}
use Rattle.oracles.specs.Ell.{EllBuffers, fresh_ell, new_ell_answer, ell_after, ell_work, ell_update_of, ell_fits, ell_tests, ell_update_answer}
use Rattle.oracles.specs.laws.Ell.{length_rank_one, rank_one_at, rank_one_symmetric}
use Rattle.oracles.specs.declared.ell_common.CutStrategy.{CutStrategy}
use Rattle.oracles.specs.declared.ell.Ell.{Ell}
use Rattle.oracles.specs.declared.ell.EllUpdate.{EllUpdate}

-- ---- a new one

-- what `new_with_matrix` makes, and of which n
pub record NewEllIs (n : ℕ) (kappa : Float) (e : Ell) : Type 0 where
  pub dimension : is_dimension n ≡ true
  pub is : e ≡ fresh_ell n kappa
  pub parallel : e.helper.use_parallel_cut ≡ true

pub ell_new : (n : ℕ) (kappa : Float) (e : Ell) → new_ell_answer n kappa ≡ Ok e → NewEllIs n kappa e
unfolding new_ell_answer made
ell_new n kappa e h =
    let p = new_is Err (Ok (fresh_ell n kappa)) n (Ok e) (λ why k. let z : ◌≡◌ {A = ℕ} 0 1 = cc in omega arith) h in
    let q : e ≡ fresh_ell n kappa = cc in
    record { dimension = p.0; is = q; parallel = rw q }

-- every n in its range has one
pub ell_makes : (n : ℕ) (kappa : Float) → is_dimension n ≡ true → new_ell_answer n kappa ≡ Ok (fresh_ell n kappa)
unfolding new_ell_answer
ell_makes n kappa = new_made Err (Ok (fresh_ell n kappa)) n

-- ---- the lengths that n says

pub record EllLong (n : ℕ) (b : EllBuffers) : Type 0 where
  pub mq_long : length b.mq ≡ n * n
  pub xc_long : length b.xc ≡ n
  pub grad_t_long : length b.grad_t ≡ n

-- from the test of them, and back
pub ell_long : (n : ℕ) (grad : List Float) (b : EllBuffers) → ell_fits n grad b ≡ true → EllLong n b
ell_long n grad b h =
    let p = and_parts _ (eqb (length b.grad_t) n) h in
    let q = and_parts _ (eqb (length b.xc) n) p.0 in
    let w = and_parts (eqb (length grad) n) (eqb (length b.mq) (n * n)) q.0 in
    record { mq_long = eqb-true _ (n * n) w.1; xc_long = eqb-true _ n q.1; grad_t_long = eqb-true _ n p.1 }

long_fits : (n : ℕ) (grad : List Float) (b : EllBuffers) → length grad ≡ n → EllLong n b → ell_fits n grad b ≡ true
long_fits n grad b h l =
    rw (eq-eqb (length grad) n h, eq-eqb (length b.mq) (n * n) l.mq_long, eq-eqb (length b.xc) n l.xc_long, eq-eqb (length b.grad_t) n l.grad_t_long)

-- ---- what an update works out

-- grad_t, and omega
abbrev pub ell_gt : Ell → List Float → EllBuffers → List Float
ell_gt e grad b = mv_of e.ndim b.mq grad

abbrev pub ell_omega : Ell → List Float → EllBuffers → Float
ell_omega e grad b = dot_of grad (ell_gt e grad b)

-- ---- what an update says and leaves, in r

-- no refusal: the definition's status, and tsq as it was where omega is tiny
pub record EllAnswered (e : Ell) (s : CutStrategy) (grad : List Float) (beta : CutChoice) (b : EllBuffers) (r : EllUpdate × EllBuffers) : Type 0 where
  pub is : r ≡ ell_update_of e s grad beta b
  pub answer_is : r.0.answer ≡ Ok (status_of (ell_work e s grad beta b))
  pub tsq_is : r.0.ell.tsq ≡ pick (is_tiny (ell_omega e grad b)) e.tsq (e.kappa ⊗ ell_omega e grad b)
  pub grad_t_is : r.1.grad_t ≡ ell_gt e grad b

-- no success: matrix, centre and kappa as they came
pub record EllKept (e : Ell) (b : EllBuffers) (r : EllUpdate × EllBuffers) : Type 0 where
  pub kappa_is : r.0.ell.kappa ≡ e.kappa
  pub mq_is : r.1.mq ≡ b.mq
  pub xc_is : r.1.xc ≡ b.xc

-- a success, with the calculator's answer a: the matrix's entries on the diagonal and below it, above it the same, and the centre's
pub record EllSucceeded (e : Ell) (grad : List Float) (b : EllBuffers) (a : CutAnswer) (kappa : Float) (c : EllBuffers) : Type 0 where
  pub kappa_is : kappa ≡ e.kappa ⊗ a.params.delta
  pub mq_at : (i j : ℕ) → i < e.ndim → j ≤ i
      → at e.ndim c.mq i j ≡ at e.ndim b.mq i j ⊖ a.params.sigma ⊘ ell_omega e grad b ⊗ nth (ell_gt e grad b) i ⊗ nth (ell_gt e grad b) j
  pub symmetric : (i j : ℕ) → i < e.ndim → j < e.ndim → at e.ndim c.mq i j ≡ at e.ndim c.mq j i
  pub xc_at : (i : ℕ) → i < length b.xc → nth c.xc i ≡ nth b.xc i ⊖ a.params.rho ⊘ ell_omega e grad b ⊗ nth (ell_gt e grad b) i

module _ (e : Ell) (s : CutStrategy) (grad : List Float) (beta : CutChoice) (b : EllBuffers) where
  -- what holds of the frame's call holds of this one
  by_call : (P : EllUpdate × EllBuffers → Type 0) → P (ell_after e (call_of (ell_tests e.ndim grad b) (ell_work e s grad beta b))) → P (ell_update_answer e s grad beta b)
  unfolding ell_update_of
  by_call P = subst P (sym (call_is (ell_after e) (ell_tests e.ndim grad b) (ell_work e s grad beta b)))

  -- n and the calculators stay as they came, whatever the answer
  pub ell_same : ((ell_update_answer e s grad beta b).0.ell.ndim ≡ e.ndim) × ((ell_update_answer e s grad beta b).0.ell.helper ≡ e.helper)
  ell_same = by_call (λ r. (r.0.ell.ndim ≡ e.ndim) × (r.0.ell.helper ≡ e.helper)) (refl, refl)

  -- lengths that fit a call fit the next one, with any gradient of n numbers
  pub ell_again : ell_fits e.ndim grad b ≡ true → (grad' : List Float) → length grad' ≡ e.ndim → ell_fits e.ndim grad' (ell_update_answer e s grad beta b).1 ≡ true
  unfolding mv_of
  ell_again h grad' l =
      let L = ell_long e.ndim grad b h in
      let g = length_tab _ e.ndim in
      long_fits e.ndim grad' (ell_update_answer e s grad beta b).1 l
      (by_call (λ r. EllLong e.ndim r.1)
      (call_leaves (ell_work e s grad beta b) (ell_tests e.ndim grad b) (EllLong e.ndim) L
      (record { mq_long = L.mq_long; xc_long = L.xc_long; grad_t_long = g })
      (record { mq_long = length_rank_one e.ndim _ _ b.mq; xc_long = length_centre b.xc _ _ ∙ L.xc_long; grad_t_long = g })))

  -- a call with n in its range and lengths that fit is never refused
  pub ell_answers : is_dimension e.ndim ≡ true → ell_fits e.ndim grad b ≡ true → EllAnswered e s grad beta b (ell_update_answer e s grad beta b)
  unfolding ell_update_of
  ell_answers d f =
      let w = ell_work e s grad beta b in
      by_call (EllAnswered e s grad beta b)
      (rw (call_accepted w (ell_tests e.ndim grad b) (at_next (held _ _ d) (held _ _ f)))
      (record { is = refl; answer_is = (update_says w).0; tsq_is = (update_says w).1; grad_t_is = update_leaves w (λ c. c.grad_t ≡ ell_gt e grad b) refl refl }))

  -- any answer but Success, a refusal too, keeps matrix, centre and kappa
  pub ell_failed : ((ell_update_answer e s grad beta b).0.answer ≡ Ok Success → ⊥) → EllKept e b (ell_update_answer e s grad beta b)
  ell_failed =
      by_call (λ r. (r.0.answer ≡ Ok Success → ⊥) → EllKept e b r)
      (λ h. let k = call_failed (ell_work e s grad beta b) (ell_tests e.ndim grad b) (λ c. (c.mq ≡ b.mq) × (c.xc ≡ b.xc)) (refl, refl) (refl, refl) h in
      record { kappa_is = k.0; mq_is = k.1.0; xc_is = k.1.1 })

  -- Success gives the entries in closed form, and a symmetric matrix
  pub ell_succeeded : (ell_update_answer e s grad beta b).0.answer ≡ Ok Success
      → EllSucceeded e grad b (answer_of (ell_work e s grad beta b)) (ell_update_answer e s grad beta b).0.ell.kappa (ell_update_answer e s grad beta b).1
  ell_succeeded =
      by_call (λ r. r.0.answer ≡ Ok Success → EllSucceeded e grad b (answer_of (ell_work e s grad beta b)) r.0.ell.kappa r.1)
      (λ h. subst (λ (p : Float × EllBuffers). EllSucceeded e grad b (answer_of (ell_work e s grad beta b)) p.0 p.1)
      (sym (call_succeeded (ell_work e s grad beta b) (ell_tests e.ndim grad b) h))
      (record { kappa_is = refl; mq_at = rank_one_at e.ndim _ _ b.mq; symmetric = rank_one_symmetric e.ndim _ _ b.mq; xc_at = centre_at b.xc _ _ }))
