-- The oracle and the gradient after a call: bands and limits stay, and an accepted call can be followed by another. Assumes nothing.
use Rattle.std.specs.Prelude.{◌≡◌, refl, Bool, true, false, List, ℕ, ◌≤◌, ◌<◌, ◌*◌, length, drop, replicate, pos, nat_abs, Float, Ok, Err, Some, None, Result}
use Rattle.numbers.specs.declared.refusal.Refusal.{Refusal}
use Rattle.std.proofs.Common.{sym, ap, ◌∙◌, true≢false, inl, inr, le_refl, le_trans, arith, eq-eqb, length-drop, length-set, length-take-le}
use Rattle.std.proofs.lemmas.List.{length-map, length-replicate}
use Rattle.std.specs.Int.Signed.{lt_z}
use Rattle.std.specs.Float.Ieee.{neg}
use Rattle.numbers.specs.F64.{0ᶠ}
use Rattle.numbers.specs.Pick.{pick}
use Rattle.numbers.specs.Arr.{row_of}
use Rattle.numbers.specs.laws.Arr.{row_in}
use Rattle.numbers.specs.laws.Pick.{by_test}
use Rattle.numbers.specs.laws.Refusal.{by_tests}
use Rattle.oracles.specs.RoundRobin.{is_at}
use Rattle.oracles.specs.laws.RoundRobin.{legal_at}
use Rattle.oracles.specs.Scan.{−∞, none, band_gradient}
use Rattle.oracles.specs.laws.Scan.{last_legal}
use Rattle.oracles.specs.LowpassOracle.{−1ᶠ, bands_fit, offered, assess_of, improved_of, optim_of, assess_tests, assess_feas_answer, assess_optim_answer, Verdict}
use Rattle.oracles.specs.laws.Assess.{fit_of, pass_left, stop_left, middle_left, assess_cases, accepted_of, accepted_by, accepted_is}
use Rattle.oracles.specs.Verdict.{asked, limits, is_accepted, FeasRule}
use Rattle.oracles.specs.laws.CursorRule.{band_found, feas_rule}
use Rattle.oracles.specs.declared.lowpass_oracle.LowpassOracle.{LowpassOracle}
use Rattle.oracles.specs.declared.lowpass_oracle.OptimVerdict.{OptimVerdict}
use Rattle.oracles.specs.declared.lowpass_oracle.Assessed.{Assessed}
use Rattle.oracles.specs.declared.lowpass_oracle.AssessedOptim.{AssessedOptim}

-- ---- the oracle

-- its bands and limits stay, also where the call is refused
pub assess_kept : (o : LowpassOracle) (n rows : ℕ) (table x grad : List Float) → limits (assess_feas_answer o n rows table x grad).0.oracle ≡ limits o
unfolding assess_feas_answer
assess_kept o n rows table x grad =
    by_tests P (assess_tests o n rows table x grad) _ _ (λ why place e. refl)
    (λ h. assess_cases o n table x grad P (λ row v over e. refl) (λ e₁ row v over e. refl) (λ e₁ e₂ row v over e. refl) (λ e₁ e₂ e₃ e. refl) (λ e₁ e₂ e₃ e. refl))
  where
    P : Assessed × List Float → Type 0
    P r = limits r.0.oracle ≡ limits o

-- whether `assess_optim` has refused the call
abbrev pub is_refusal : Result OptimVerdict Refusal → Bool
is_refusal (Ok v) = false
is_refusal (Err why) = true

-- a refusal gives the oracle o as it came, any other answer the oracle o' that the assessment of the offered number leaves
pub record OptimAfter (o o' : LowpassOracle) (r : AssessedOptim) : Type 0 where
  pub as_it_came : is_refusal r.verdict ≡ true → r.oracle ≡ o
  pub assessed : is_refusal r.verdict ≡ false → r.oracle ≡ o'

pub optim_after : (o : LowpassOracle) (gamma : Float) (n rows : ℕ) (table x grad : List Float)
    → OptimAfter o (assess_feas_answer (offered o gamma) n rows table x grad).0.oracle (assess_optim_answer o gamma n rows table x grad).0
unfolding improved_of
optim_after o gamma n rows table x grad = let a = assess_feas_answer (offered o gamma) n rows table x grad in go a.0.oracle a.0.verdict a.1
  where
    go : (o' : LowpassOracle) (v : Verdict) (g : List Float) → OptimAfter o o' (optim_of o gamma n table o' v g).0
    go o' (Ok None) g =
        by_test (λ (r : AssessedOptim × List Float). OptimAfter o o' r.0) (lt_z o'.kmax (pos 0)) _ _
        (λ t. record { as_it_came = λ e. refl; assessed = λ e. absurd (true≢false e) })
        (λ t. record { as_it_came = λ e. absurd (true≢false (sym e)); assessed = λ e. refl })
    go o' (Ok (Some c)) g = record { as_it_came = λ e. absurd (true≢false (sym e)); assessed = λ e. refl }
    go o' (Err why) g = record { as_it_came = λ e. refl; assessed = λ e. absurd (true≢false e) }

-- so the offered number is stored unless the call is refused
pub optim_kept : (o : LowpassOracle) (gamma : Float) (n rows : ℕ) (table x grad : List Float) → is_refusal (assess_optim_answer o gamma n rows table x grad).0.verdict ≡ false
    → limits (assess_optim_answer o gamma n rows table x grad).0.oracle ≡ limits (offered o gamma)
optim_kept o gamma n rows table x grad e = ap limits ((optim_after o gamma n rows table x grad).assessed e) ∙ assess_kept (offered o gamma) n rows table x grad

-- after an accepted call it is accepted again, with any point and gradient of n numbers
module _ (o : LowpassOracle) (n rows : ℕ) (table x grad : List Float) (h : is_accepted o n rows table x grad ≡ true) (x' grad' : List Float) (hx : length x' ≡ n) (hg : length grad' ≡ n) where
  fits_again : (o' : LowpassOracle) → bands_fit o' rows ≡ true → is_at o'.rr1 ≡ true → is_at o'.rr2 ≡ true → is_at o'.rr3 ≡ true → is_accepted o' n rows table x' grad' ≡ true
  fits_again o' b a₁ a₂ a₃ =
      let a = accepted_of o n rows table x grad h in
      accepted_by o' n rows table x' grad'
      (record { dimension = a.dimension; long = rw (eq-eqb (length table) (rows * n) a.table_long, eq-eqb (length x') n hx, eq-eqb (length grad') n hg); bands = b; cursors = rw (a₁, a₂, a₃) })

  as_it_came_again : is_accepted o n rows table x' grad' ≡ true
  as_it_came_again =
      let a = accepted_of o n rows table x grad h in
      let F = fit_of o rows a.bands a.cursors in
      fits_again o a.bands (legal_at o.rr1 F.pass_rows.legal) (legal_at o.rr2 F.middle_rows.legal) (legal_at o.rr3 F.stop_rows.legal)

  assessed_again : is_accepted (assess_of o n table x grad).0.oracle n rows table x' grad' ≡ true
  assessed_again =
      let a = accepted_of o n rows table x grad h in
      let F = fit_of o rows a.bands a.cursors in
      let p = (last_legal n table x o.rr1 o.lp_sq (Some o.up_sq) F.pass_rows.legal).at in
      let s = (last_legal n table x o.rr3 0ᶠ (Some o.sp_sq) F.stop_rows.legal).at in
      let m = (last_legal n table x o.rr2 0ᶠ None F.middle_rows.legal).at in
      let s₀ = legal_at o.rr3 F.stop_rows.legal in
      let m₀ = legal_at o.rr2 F.middle_rows.legal in
      assess_cases o n table x grad (λ r. is_accepted r.0.oracle n rows table x' grad' ≡ true)
      (λ row v over e. fits_again (pass_left o n table x) a.bands p m₀ s₀)
      (λ e₁ row v over e. fits_again (stop_left o n table x −∞ none) a.bands p m₀ s)
      (λ e₁ e₂ row v over e. fits_again (middle_left o n table x true) a.bands p m s)
      (λ e₁ e₂ e₃ e. fits_again (middle_left o n table x false) a.bands p m s)
      (λ e₁ e₂ e₃ e. fits_again (middle_left o n table x false) a.bands p m s)

  pub assess_again : is_accepted (assess_feas_answer o n rows table x grad).0.oracle n rows table x' grad' ≡ true
  assess_again = rw (accepted_is o n rows table x grad h) assessed_again

-- the same after `assess_optim`, a refusal by 6 too
pub optim_again : (o : LowpassOracle) (gamma : Float) (n rows : ℕ) (table x grad : List Float) → is_accepted o n rows table x grad ≡ true
    → (x' grad' : List Float) → length x' ≡ n → length grad' ≡ n → is_accepted (assess_optim_answer o gamma n rows table x grad).0.oracle n rows table x' grad' ≡ true
optim_again o gamma n rows table x grad h x' grad' hx hg = go (is_refusal (assess_optim_answer o gamma n rows table x grad).0.verdict) refl
  where
    go : (t : Bool) → is_refusal (assess_optim_answer o gamma n rows table x grad).0.verdict ≡ t
        → is_accepted (assess_optim_answer o gamma n rows table x grad).0.oracle n rows table x' grad' ≡ true
    go true e = rw ((optim_after o gamma n rows table x grad).as_it_came e) (as_it_came_again o n rows table x grad h x' grad' hx hg)
    go false e = rw ((optim_after o gamma n rows table x grad).assessed e) (assess_again (offered o gamma) n rows table x grad h x' grad' hx hg)

-- ---- the gradient after an accepted call has n numbers

pub row_length : (n rows : ℕ) (table : List Float) (row : ℕ) → length table ≡ rows * n → row < rows → length (row_of n table row) ≡ n
row_length n rows table row h l = length-take-le n (drop (row * n) table) (rw (length-drop (row * n) table) (omega (arith, row_in n row rows l)))

cut_length : (n rows : ℕ) (table : List Float) (row : ℕ) (over : Bool) → length table ≡ rows * n → row < rows → length (band_gradient n table row over) ≡ n
unfolding band_gradient pick
cut_length n rows table row true h l = row_length n rows table row h l
cut_length n rows table row false h l = length-map (row_of n table row) neg ∙ row_length n rows table row h l

module _ (o : LowpassOracle) (n rows : ℕ) (table x grad : List Float) (h : is_accepted o n rows table x grad ≡ true) where
  pub gradient_length : length (assess_feas_answer o n rows table x grad).1 ≡ n
  gradient_length =
      let a = accepted_of o n rows table x grad h in
      let F = fit_of o rows a.bands a.cursors in
      rw (accepted_is o n rows table x grad h)
      (assess_cases o n table x grad (λ r. length r.1 ≡ n)
      (λ row v over e. cut row over (band_found n table x o.rr1 o.lp_sq (Some o.up_sq) 0 (nat_abs o.nwpass) F.pass_rows row v over e).high F.pass_high)
      (λ e₁ row v over e. cut row over (band_found n table x o.rr3 0ᶠ (Some o.sp_sq) (nat_abs o.nwstop) rows F.stop_rows row v over e).high (le_refl rows))
      (λ e₁ e₂ row v over e. cut row over (band_found n table x o.rr2 0ᶠ None (nat_abs o.nwpass) (nat_abs o.nwstop) F.middle_rows row v over e).high F.middle_high)
      (λ e₁ e₂ e₃ e. length-set (replicate (length grad) 0ᶠ) 0 −1ᶠ ∙ length-replicate (length grad) 0ᶠ ∙ a.grad_long)
      (λ e₁ e₂ e₃ e. a.grad_long))
    where
      cut : (row : ℕ) (over : Bool) {past : ℕ} → row < past → past ≤ rows → length (band_gradient n table row over) ≡ n
      cut row over l m = cut_length n rows table row over (accepted_of o n rows table x grad h).table_long (le_trans l m)

pub optim_gradient_length : (o : LowpassOracle) (gamma : Float) (n rows : ℕ) (table x grad : List Float) → is_accepted o n rows table x grad ≡ true → length (assess_optim_answer o gamma n rows table x grad).1 ≡ n
unfolding improved_of
optim_gradient_length o gamma n rows table x grad h =
    let a = assess_feas_answer (offered o gamma) n rows table x grad in
    go a.0.oracle a.0.verdict a.1 (feas_rule (offered o gamma) n rows table x grad h) (gradient_length (offered o gamma) n rows table x grad h)
  where
    go : (o' : LowpassOracle) (v : Verdict) (g : List Float) → FeasRule (asked o gamma n rows table x) (record { oracle = o'; verdict = v }) → length g ≡ n → length (optim_of o gamma n table o' v g).1 ≡ n
    go o' (Ok None) g r e =
        by_test (λ (r : AssessedOptim × List Float). length r.1 ≡ n) (lt_z o'.kmax (pos 0)) _ _ (λ t. e)
        (λ t. elim (r.peak (sym r.verdict_is)) [
          | inl p ↦ rw p.row_is (row_length n rows table p.row (accepted_of o n rows table x grad h).table_long p.high)
          | inr p ↦ absurd (true≢false (rw p.kmax_is at t))
        ])
    go o' (Ok (Some c)) g r e = e
    go o' (Err why) g r e = e
