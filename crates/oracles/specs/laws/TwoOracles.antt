-- Two oracles with equal bands and limits say the same of a point, wherever their cursors stand and whatever idx, fmax, kmax and more_alt hold. Assumes nothing.
use Rattle.std.specs.Prelude.{◌≡◌, true, false, ◌&&◌, List, ℕ, ℤ, Float}
use Rattle.std.proofs.Common.{sym, ap, ◌∙◌, true≢false, inl, inr}
use Rattle.std.specs.Float.Ieee.{eq}
use Rattle.oracles.specs.laws.FloatOrder.{nlt_eq}
use Rattle.oracles.specs.LowpassOracle.{offered, assess_feas_answer, assess_optim_answer}
use Rattle.oracles.specs.Verdict.{feasible, Limits, Question, judge, no_stop_value, asked, limits, is_accepted, judgement, Peak, as_feas, is_six, is_feasible}
use Rattle.oracles.specs.laws.CursorRule.{has_value, feas_rule, optim_rule}
use Rattle.oracles.specs.declared.lowpass_oracle.LowpassOracle.{LowpassOracle}

-- equal limits ask the same
asked_same : (o o' : LowpassOracle) (n rows : ℕ) (table x : List Float) → limits o ≡ limits o' → asked o o.sp_sq n rows table x ≡ asked o' o'.sp_sq n rows table x
asked_same o o' n rows table x e = ap (λ (l : Limits). record { n = n; rows = rows; limits = l; table = table; x = x }) e

-- two largest values of one point
peak_same : (q : Question) (f : Float) (k : ℤ) (f' : Float) (k' : ℤ) → Peak q f k → Peak q f' k' → eq f f' ≡ true
unfolding eq
peak_same q f k f' k' (inl h) (inl h') =
    nlt_eq f f' h.compares h'.compares (rw h'.value_is at (h.largest h'.row h'.low h'.high)) (rw h.value_is at (h'.largest h.row h.low h.high))
peak_same q f k f' k' (inl h) (inr h') = absurd (true≢false (sym h'.nothing ∙ has_value q f k h))
peak_same q f k f' k' (inr h) (inl h') = absurd (true≢false (sym h.nothing ∙ has_value q f' k' h'))
peak_same q f k f' k' (inr h) (inr h') = rw (h.fmax_is, h'.fmax_is)

module _ (o o' : LowpassOracle) (n rows : ℕ) (table x grad grad' : List Float) where
  -- one verdict
  pub same_verdict : limits o ≡ limits o' → is_accepted o n rows table x grad ≡ true → is_accepted o' n rows table x grad' ≡ true
      → judgement (assess_feas_answer o n rows table x grad).0.verdict ≡ judgement (assess_feas_answer o' n rows table x grad').0.verdict
  same_verdict e a a' = (feas_rule o n rows table x grad a).verdict_is ∙ ap judge (asked_same o o' n rows table x e) ∙ sym (feas_rule o' n rows table x grad' a').verdict_is

  -- one largest value, both zeros equal
  pub same_peak : limits o ≡ limits o' → is_accepted o n rows table x grad ≡ true → is_accepted o' n rows table x grad' ≡ true
      → judgement (assess_feas_answer o n rows table x grad).0.verdict ≡ feasible
      → eq (assess_feas_answer o n rows table x grad).0.oracle.fmax (assess_feas_answer o' n rows table x grad').0.oracle.fmax ≡ true
  same_peak e a a' h =
      let r = feas_rule o n rows table x grad a in
      let q = asked_same o o' n rows table x e in
      let j : judge (asked o o.sp_sq n rows table x) ≡ feasible = sym r.verdict_is ∙ h in
      peak_same (asked o' o'.sp_sq n rows table x) _ _ _ _ (rw q at (r.peak j)) ((feas_rule o' n rows table x grad' a').peak (rw q at j))

  -- the same of `assess_optim`, whatever sp_sq is stored; 6 comes from both or from neither
  pub same_optim : (gamma : Float) → limits (offered o gamma) ≡ limits (offered o' gamma) → is_accepted o n rows table x grad ≡ true → is_accepted o' n rows table x grad' ≡ true
      → (judgement (as_feas (assess_optim_answer o gamma n rows table x grad).0.verdict) ≡ judgement (as_feas (assess_optim_answer o' gamma n rows table x grad').0.verdict))
      × (is_six (assess_optim_answer o gamma n rows table x grad).0.verdict ≡ is_six (assess_optim_answer o' gamma n rows table x grad').0.verdict)
  same_optim gamma e a a' =
      let r = optim_rule o gamma n rows table x grad a in
      let r' = optim_rule o' gamma n rows table x grad' a' in
      let q = asked_same (offered o gamma) (offered o' gamma) n rows table x e in
      (r.verdict_is ∙ ap judge q ∙ sym r'.verdict_is, r.six_is ∙ ap (λ p. is_feasible (judge p) && no_stop_value p) q ∙ sym r'.six_is)

  -- and one largest value, which is the caller's number too
  pub same_optim_peak : (gamma : Float) → limits (offered o gamma) ≡ limits (offered o' gamma) → is_accepted o n rows table x grad ≡ true → is_accepted o' n rows table x grad' ≡ true
      → judgement (as_feas (assess_optim_answer o gamma n rows table x grad).0.verdict) ≡ feasible → is_six (assess_optim_answer o gamma n rows table x grad).0.verdict ≡ false
      → (eq (assess_optim_answer o gamma n rows table x grad).0.oracle.fmax (assess_optim_answer o' gamma n rows table x grad').0.oracle.fmax ≡ true)
      × (eq (assess_optim_answer o gamma n rows table x grad).0.gamma (assess_optim_answer o' gamma n rows table x grad').0.gamma ≡ true)
  same_optim_peak gamma e a a' h s =
      let r = optim_rule o gamma n rows table x grad a in
      let r' = optim_rule o' gamma n rows table x grad' a' in
      let q = asked_same (offered o gamma) (offered o' gamma) n rows table x e in
      let j : judge (asked o gamma n rows table x) ≡ feasible = sym r.verdict_is ∙ h in
      let j' : judge (asked o' gamma n rows table x) ≡ feasible = rw q at j in
      let s' = sym (same_optim gamma e a a').1 ∙ s in
      let p = peak_same (asked o' gamma n rows table x) _ _ _ _ (inl (rw q at (r.peak s j))) (inl (r'.peak s' j')) in
      (p, rw (r.offer s j, r'.offer s' j') p)
