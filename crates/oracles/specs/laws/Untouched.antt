-- What `assess_optim` leaves as it came: a refusal the gradient, and all but an improvement the caller's number. Assumes nothing.
use Rattle.std.specs.Prelude.{ℕ, ◌≡◌, refl, Bool, true, false, List, pos, Float, Ok, Err, Some, None, Result}
use Rattle.numbers.specs.declared.refusal.Refusal.{Refusal}
use Rattle.std.proofs.Common.{sym, true≢false}
use Rattle.std.specs.Int.Signed.{lt_z}
use Rattle.oracles.specs.LowpassOracle.{offered, improved_of, optim_of, assess_tests, assess_feas_answer, assess_optim_answer, Verdict}
use Rattle.oracles.specs.laws.Assess.{assess_cases}
use Rattle.oracles.specs.laws.OracleAfter.{is_refusal}
use Rattle.oracles.specs.declared.lowpass_oracle.LowpassOracle.{LowpassOracle}
use Rattle.oracles.specs.declared.lowpass_oracle.OptimVerdict.{OptimVerdict}
use Rattle.oracles.specs.declared.lowpass_oracle.OptimVerdict.TheVariants.{Improved, Cut as CutOptim}
use Rattle.oracles.specs.declared.lowpass_oracle.Assessed.{Assessed}
use Rattle.oracles.specs.declared.lowpass_oracle.AssessedOptim.{AssessedOptim}
use Rattle.numbers.specs.laws.Pick.{by_test}
use Rattle.numbers.specs.laws.Refusal.{by_tests}

abbrev is_cut : Verdict → Bool
is_cut (Ok None) = false
is_cut (Ok (Some c)) = true
is_cut (Err why) = false

-- without a cut the gradient is as it came
uncut_gradient : (o : LowpassOracle) (n rows : ℕ) (table x grad : List Float) → let a = assess_feas_answer o n rows table x grad in is_cut a.0.verdict ≡ false → a.1 ≡ grad
unfolding assess_feas_answer
uncut_gradient o n rows table x grad =
    by_tests P (assess_tests o n rows table x grad) _ _ (λ why place e _. refl)
    (λ _. assess_cases o n table x grad P (λ row v over e t. absurd (true≢false t)) (λ e₁ row v over e t. absurd (true≢false t)) (λ e₁ e₂ row v over e t. absurd (true≢false t))
    (λ e₁ e₂ e₃ e t. absurd (true≢false t)) (λ e₁ e₂ e₃ e t. refl))
  where
    P : Assessed × List Float → Type 0
    P r = is_cut r.0.verdict ≡ false → r.1 ≡ grad

abbrev pub is_improved : Result OptimVerdict Refusal → Bool
is_improved (Ok (Improved beta)) = true
is_improved (Ok (CutOptim c)) = false
is_improved (Err why) = false

pub record Untouched (gamma : Float) (grad : List Float) (r : AssessedOptim × List Float) : Type 0 where
  pub gamma_stays : is_improved r.0.verdict ≡ false → r.0.gamma ≡ gamma
  pub grad_stays : is_refusal r.0.verdict ≡ true → r.1 ≡ grad

pub untouched : (o : LowpassOracle) (gamma : Float) (n rows : ℕ) (table x grad : List Float) → Untouched gamma grad (assess_optim_answer o gamma n rows table x grad)
unfolding improved_of
untouched o gamma n rows table x grad =
    let a = assess_feas_answer (offered o gamma) n rows table x grad in
    go a.0.oracle a.0.verdict a.1 (uncut_gradient (offered o gamma) n rows table x grad)
  where
    go : (o' : LowpassOracle) (v : Verdict) (g : List Float) → (is_cut v ≡ false → g ≡ grad) → Untouched gamma grad (optim_of o gamma n table o' v g)
    go o' (Ok None) g e =
        by_test (λ (r : AssessedOptim × List Float). Untouched gamma grad r) (lt_z o'.kmax (pos 0)) _ _
        (λ _. record { gamma_stays = λ _. refl; grad_stays = λ _. e refl })
        (λ _. record { gamma_stays = λ t. absurd (true≢false t); grad_stays = λ t. absurd (true≢false (sym t)) })
    go o' (Ok (Some c)) g e = record { gamma_stays = λ _. refl; grad_stays = λ t. absurd (true≢false (sym t)) }
    go o' (Err why) g e = record { gamma_stays = λ _. refl; grad_stays = λ _. e refl }
