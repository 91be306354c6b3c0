-- What the public calls of an oracle answer, by what the tests say. Assumes nothing.
use Rattle.std.specs.Prelude.{is_err, Ok, Err, None, Result, ⊤}
use Rattle.numbers.specs.Refusal.{Tests}
use mathlib.Core.Path.{◌≡◌, refl, sym, ap, ◌∙◌, subst}
use mathlib.Core.Bool.{Bool, true, false, not, ◌&&◌, true≢false}
use mathlib.Core.List.{List}
use mathlib.Core.Logic.{inl, inr}
use Prim.Native.Nat.{ℕ, ◌≤◌, ◌+◌, ◌*◌}
use native.Mathlib.Nat.{suc-mul, mul-le-mul_right}
use native.Mathlib.Omega.{arith}
use lib.Dec.{eqb}
use lib.IntN.{pos, nat_abs}
use lib.Signed.{lt_z}
use lib.ListN.{length}
use lib.Ieee.{Float}
use Rattle.numbers.specs.laws.Arr.{dimension_least, dimension_most}
use Rattle.numbers.specs.Arr.{is_dimension}
use Rattle.numbers.specs.declared.refusal.Refusal.{Refusal}
use Rattle.oracles.proofs.Refusals.{first_of, err_by, ok_by}
use Rattle.oracles.specs.Table.{table_fits}
use Rattle.oracles.specs.Scan.{first_fault}
use Rattle.oracles.specs.laws.ScanRows.{fault_by}
use Rattle.oracles.specs.LowpassOracle.{bands_fit, cursors_fit, refused_of, assess_of, assess_tests, assess_feas_answer, optim_of, assess_optim_answer, offered, Verdict}
use Rattle.oracles.specs.Verdict.{feasible, refused, asked, is_accepted, is_feasible, judgement, Peak, FeasRule, OptimRule, ByFeasRule, ByOptimRule}
use Rattle.oracles.specs.laws.Assess.{Accepted, accepted_of, accepted_is}
use Rattle.oracles.specs.laws.CursorRule.{feas_rule, optim_rule, refused_unless}
use Rattle.oracles.specs.laws.OracleAfter.{gradient_length}
use Rattle.oracles.specs.declared.lowpass_oracle.LowpassOracle.{LowpassOracle}
use Rattle.oracles.specs.declared.lowpass_oracle.Assessed.{Assessed}
use Rattle.oracles.specs.declared.lowpass_oracle.AssessedOptim.{AssessedOptim}

module _ (o : LowpassOracle) (n rows : ℕ) (table x grad : List Float) where
  abbrev Answer : Type 0
  Answer = Assessed × List Float

  -- the answer brings the rule with it
  pub with_rule : (r : Assessed) (grad' : List Float) → ◌≡◌ {A = Answer} (r, grad') (assess_feas_answer o n rows table x grad)
      → (◌≡◌ {A = Answer} (r, grad') (assess_feas_answer o n rows table x grad)) × (ByFeasRule o n rows table x grad r)
  with_rule r grad' e = (e, λ h. subst (FeasRule (asked o o.sp_sq n rows table x)) (sym (ap (λ (p : Answer). p.0) e)) (feas_rule o n rows table x grad h))

  -- what the tests found, f
  module _ {f : Result ⊤ Refusal} {d t b k : Bool} (e : f ≡ first_of (first_fault d (t && eqb (length grad) n) b k))
      (hd : d ≡ is_dimension n) (ht : t ≡ table_fits n rows table x) (hb : b ≡ bands_fit o rows) (hk : k ≡ cursors_fit o) where
    found : f ≡ first_of (assess_tests o n rows table x grad)
    found = e ∙ ap first_of (fault_by refl hd (ap (λ (z : Bool). z && eqb (length grad) n) ht) hb hk)

    -- the answer by it
    pub tests_refuse : {why : Refusal} → f ≡ Err why
        → (◌≡◌ {A = Answer} (refused_of o why, grad) (assess_feas_answer o n rows table x grad)) × ByFeasRule o n rows table x grad (refused_of o why)
    unfolding assess_feas_answer
    tests_refuse q = with_rule _ grad (err_by (λ why. (refused_of o why, grad)) _ _ (sym q ∙ found))

    pub tests_accept : f ≡ Ok tt → is_accepted o n rows table x grad ≡ true
    tests_accept q = ap (λ (g : Tests). not (is_err g)) (sym (ok_by _ (sym q ∙ found)))

  pub assessed : (r : Assessed) (grad' : List Float) → is_accepted o n rows table x grad ≡ true → ◌≡◌ {A = Answer} (r, grad') (assess_of o n table x grad)
      → (◌≡◌ {A = Answer} (r, grad') (assess_feas_answer o n rows table x grad)) × ByFeasRule o n rows table x grad r
  assessed r grad' h e = with_rule r grad' (e ∙ sym (accepted_is o n rows table x grad h))

  -- a feasible point was accepted
  feasible_accepted : (assess_feas_answer o n rows table x grad).0.verdict ≡ (Ok None) → is_accepted o n rows table x grad ≡ true
  feasible_accepted h = go (is_accepted o n rows table x grad) refl
    where
      go : (t : Bool) → is_accepted o n rows table x grad ≡ t → is_accepted o n rows table x grad ≡ true
      go true e = e
      go false e = let z : feasible ≡ refused = sym (ap judgement h) ∙ refused_unless o n rows table x grad e in absurd (true≢false (ap is_feasible z))

  -- and what it leaves can be used for an improving cut
  pub feasible_leaves : (r : Assessed) (grad' : List Float) → ◌≡◌ {A = Answer} (r, grad') (assess_feas_answer o n rows table x grad) → r.verdict ≡ Ok None
      → (2 ≤ n) × (n ≤ 32) × (lt_z r.oracle.kmax (pos 0) ≡ false → nat_abs r.oracle.kmax * n + n ≤ length table) × (length grad' ≡ n)
  feasible_leaves r grad' e v =
      let same = ap (λ (p : Answer). p.0) e in
      let ok = feasible_accepted (ap (λ (z : Assessed). z.verdict) (sym same) ∙ v) in
      let A = accepted_of o n rows table x grad ok in
      let rule = (with_rule r grad' e).1 ok in (
        dimension_least n A.dimension,
        dimension_most n A.dimension,
        kmax_fits A (rule.peak (sym rule.verdict_is ∙ ap judgement v)),
        ap (λ (p : Answer). length p.1) e ∙ gradient_length o n rows table x grad ok,
      )
    where
      kmax_fits : Accepted o n rows table x grad → Peak (asked o o.sp_sq n rows table x) r.oracle.fmax r.oracle.kmax
          → lt_z r.oracle.kmax (pos 0) ≡ false → nat_abs r.oracle.kmax * n + n ≤ length table
      kmax_fits A (inl k) h = rw k.row_is (omega (arith, suc-mul k.row n, mul-le-mul_right n k.high, A.table_long))
      kmax_fits A (inr k) h = absurd (true≢false (rw k.kmax_is at h))

module _ (o : LowpassOracle) (gamma : Float) (n rows : ℕ) (table x grad : List Float) (r : Assessed) (grad' : List Float)
    (e : ◌≡◌ {A = Assessed × List Float} (r, grad') (assess_feas_answer (offered o gamma) n rows table x grad)) where
  -- the answer by the verdict, with the rule that it brings
  pub optim_as : (v : Verdict) → r.verdict ≡ v → (s : AssessedOptim) (g : List Float) → ◌≡◌ {A = AssessedOptim × List Float} (s, g) (optim_of o gamma n table r.oracle v grad')
      → (◌≡◌ {A = AssessedOptim × List Float} (s, g) (assess_optim_answer o gamma n rows table x grad)) × (ByOptimRule o gamma n rows table x grad s)
  optim_as v ev s g q =
      let t : ◌≡◌ {A = AssessedOptim × List Float} (s, g) (assess_optim_answer o gamma n rows table x grad) =
      subst (λ (z : Assessed × List Float). ◌≡◌ {A = AssessedOptim × List Float} (s, g) (optim_of o gamma n table z.0.oracle z.0.verdict z.1)) e (rw ev q)
      in
      (t, λ h. subst (OptimRule (asked o gamma n rows table x)) (sym (ap (λ (p : AssessedOptim × List Float). p.0) t)) (optim_rule o gamma n rows table x grad h))
