-- Laws that the calls of both ellipsoids share. Assumes nothing.
use Rattle.numbers.specs.Refusal.{Sound, Tests}
use Rattle.std.specs.Prelude.{◌≡◌, refl, true, false, not, List, ℕ, ◌<◌, length, Float, Ok, Err}
use Rattle.std.proofs.Common.{sym, ap, ◌∙◌, true≢false, arith}
use Rattle.std.proofs.lemmas.Bool.{not-true, not-false}
use Rattle.numbers.specs.F64.{◌⊖◌, ◌⊗◌}
use Rattle.numbers.specs.Pick.{pick}
use Rattle.numbers.specs.Arr.{is_dimension}
use Rattle.numbers.specs.EllCalc.{new_tests}
use Rattle.numbers.specs.laws.Arr.{length_tab, tab_entry}
use Rattle.numbers.specs.laws.Pick.{hit, skip, by_test}
use Rattle.numbers.specs.laws.Refusal.{held, accepts, by_tests, ask_sound, unless_map}
use Rattle.numbers.specs.declared.refusal.Refusal.{Refusal}
use Rattle.numbers.specs.declared.cut.CutStatus.{CutStatus}
use Rattle.numbers.specs.declared.cut.CutStatus.TheVariants.{Success, NoSoln, NoEffect}
use Rattle.oracles.specs.Matrix.{nth}
use Rattle.oracles.specs.EllCommon.{is_tiny, is_success, centre_of, new_of, Work, Change, change, tsq_of, answer_of, success_of, status_of, update_of, update_answer}

-- Success is the one status that is a success
pub success_is : (c : CutStatus) → is_success c ≡ true → c ≡ Success
success_is Success e = refl
success_is NoSoln e = absurd (true≢false (sym e))
success_is NoEffect e = absurd (true≢false (sym e))

-- the centre after a success
module _ (xc : List Float) (step : Float) (dir : List Float) where
  pub length_centre : length (centre_of xc step dir) ≡ length xc
  unfolding centre_of
  length_centre = length_tab _ (length xc)

  pub centre_at : (i : ℕ) → i < length xc → nth (centre_of xc step dir) i ≡ nth xc i ⊖ step ⊗ nth dir i
  unfolding centre_of
  centre_at i h = tab_entry _ (length xc) i h

-- ---- a new ellipsoid

module _ {X : Type 0} (refused : Refusal → X) (fresh : X) (n : ℕ) where
  -- every n in its range has one
  pub new_made : is_dimension n ≡ true → new_of refused fresh n ≡ fresh
  new_made d = sym (accepts _ _ (new_tests n) (held _ _ d) refl)

  -- and no other n
  pub new_is : (x : X) → ((why : Refusal) → refused why ≡ x → ⊥) → new_of refused fresh n ≡ x → (is_dimension n ≡ true) × (fresh ≡ x)
  new_is x never =
      by_tests (λ r. r ≡ x → (is_dimension n ≡ true) × (fresh ≡ x)) (new_tests n) _ _ (λ why place t h. absurd (never why h)) (λ t h. (ask_sound (is_dimension n) _ _ t, h))

-- ---- an update

-- what a call leaves: its refusal changes nothing
abbrev pub call_of : {B : Type 0} → Tests → Work B → Change B
call_of tests w = update_answer (λ c. c) tests w.kappa w.tsq w.before (update_of w)

pub call_is : {B X : Type 0} (after : Change B → X) (tests : Tests) (w : Work B)
    → update_answer after tests w.kappa w.tsq w.before (after (update_of w)) ≡ after (call_of tests w)
call_is after tests w = sym (unless_map after tests _ _)

module _ {B : Type 0} (w : Work B) where
  -- what holds of each way through an update holds of it
  by_ways : (P : Change B → Type 0)
      → (is_tiny w.omega ≡ true → P (change (Ok NoEffect) w.kappa w.tsq w.prepared))
      → (is_tiny w.omega ≡ false → is_success (answer_of w).status ≡ false → P (change (Ok (answer_of w).status) w.kappa (tsq_of w) w.prepared))
      → (is_tiny w.omega ≡ false → is_success (answer_of w).status ≡ true → P (change (Ok (answer_of w).status) (success_of w).0 (tsq_of w) (success_of w).1))
      → P (update_of w)
  unfolding update_of
  by_ways P f g k =
      by_test P (is_tiny w.omega) _ _ f (λ t. by_test P (not (is_success (answer_of w).status)) _ _ (λ u. g t (not-true _ u)) (λ u. k t (not-false _ u)))

  -- its status and its tsq
  pub update_says : ((update_of w).answer ≡ Ok (status_of w)) × ((update_of w).tsq ≡ pick (is_tiny w.omega) w.tsq (tsq_of w))
  unfolding status_of
  update_says = by_ways P
      (λ t. (ap Ok (hit _ _ _ _ t refl), hit _ _ _ _ t refl))
      (λ t u. (ap Ok (skip _ _ _ _ t refl), skip _ _ _ _ t refl))
      (λ t u. (ap Ok (skip _ _ _ _ t refl), skip _ _ _ _ t refl))
    where
      P : Change B → Type 0
      P c = (c.answer ≡ Ok (status_of w)) × (c.tsq ≡ pick (is_tiny w.omega) w.tsq (tsq_of w))

  -- what holds of the slices, however it ends, holds of those that it leaves
  pub update_leaves : (P : B → Type 0) → P w.prepared → P (success_of w).1 → P (update_of w).buffers
  update_leaves P p s = by_ways (λ c. P c.buffers) (λ t. p) (λ t u. p) (λ t u. s)

  module _ (tests : Tests) where
    by_answers : (P : Change B → Type 0) → ((why : Refusal) → P (change (Err why) w.kappa w.tsq w.before)) → P (update_of w) → P (call_of tests w)
    by_answers P f g = by_tests P tests _ _ (λ why place h. f why) (λ h. g)

    pub call_accepted : Sound ≡ tests → call_of tests w ≡ update_of w
    call_accepted h = sym (accepts _ _ tests h refl)

    pub call_leaves : (P : B → Type 0) → P w.before → P w.prepared → P (success_of w).1 → P (call_of tests w).buffers
    call_leaves P b p s = by_answers (λ c. P c.buffers) (λ why. b) (update_leaves P p s)

    -- any answer but Success, a refusal too, keeps kappa, and what holds of the slices in both
    pub call_failed : (P : B → Type 0) → P w.before → P w.prepared → ((call_of tests w).answer ≡ Ok Success → ⊥)
        → ((call_of tests w).kappa ≡ w.kappa) × P (call_of tests w).buffers
    call_failed P b p = by_answers Q (λ why h. (refl, b)) (by_ways Q (λ t h. (refl, p)) (λ t u h. (refl, p)) (λ t u h. absurd (h (ap Ok (success_is _ u)))))
      where
        Q : Change B → Type 0
        Q c = (c.answer ≡ Ok Success → ⊥) → (c.kappa ≡ w.kappa) × P c.buffers

    -- Success leaves what a success leaves
    pub call_succeeded : (call_of tests w).answer ≡ Ok Success → ((call_of tests w).kappa, (call_of tests w).buffers) ≡ success_of w
    call_succeeded = by_answers Q (λ why h. absurd (let z : ◌≡◌ {A = ℕ} 0 1 = cc in omega arith))
        (by_ways Q
        (λ t h. absurd (let z : ◌≡◌ {A = ℕ} 0 1 = cc in omega arith))
        (λ t u h. let q : (answer_of w).status ≡ Success = cc in absurd (true≢false (ap is_success (sym q) ∙ u)))
        (λ t u h. refl))
      where
        Q : Change B → Type 0
        Q c = c.answer ≡ Ok Success → (c.kappa, c.buffers) ≡ success_of w
