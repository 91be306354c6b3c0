-- A step from a state that passes the tests of a run is not refused, and the state that it leaves passes them again. Assumes nothing.
use Rattle.numbers.specs.Refusal.{Sound}
use Rattle.std.specs.Prelude.{ℕ, ◌*◌, ◌≡◌, refl, Bool, false, List, eqb, length, Float, Err, None, Some, Ok}
use Rattle.std.proofs.Common.{sym, ap, ◌∙◌, true≢false}
use Rattle.std.proofs.Math.Bool.{true}
use borrow.Author.Tests.{eq-eqb, eqb-true}
use Rattle.numbers.specs.Arr.{is_dimension}
use Rattle.numbers.specs.laws.Pick.{and_parts}
use Rattle.oracles.specs.LowpassOracle.{bands_fit, cursors_fit, assess_feas_answer, Verdict}
use Rattle.oracles.specs.laws.Assess.{oracle_fits, fits_oracle, accepted_of, accepted_by}
use Rattle.oracles.specs.Verdict.{Question, limits, asked, judge, judgement, group_judgement, is_feasible, is_accepted}
use Rattle.oracles.specs.laws.Judge.{judge_answers}
use Rattle.oracles.specs.laws.CursorRule.{feas_rule}
use Rattle.oracles.specs.laws.OracleAfter.{assess_kept, assess_again, gradient_length}
use Rattle.oracles.specs.Ell.{ell_fits, ell_update_answer}
use Rattle.oracles.specs.laws.EllCalls.{EllLong, ell_long, ell_same, ell_again, ell_answers}
use Rattle.oracles.specs.declared.ell_common.CutStrategy.TheVariants.{BiasCut}
use Rattle.oracles.specs.declared.lowpass_oracle.LowpassOracle.{LowpassOracle}
use Rattle.oracles.specs.declared.lowpass_oracle.Group.{Group}
use Rattle.oracles.specs.declared.lowpass_oracle.Cut.{Cut}
use Rattle.oracles.specs.declared.lowpass_oracle.Group.TheVariants.{Pass, Stop, Middle, Sign}
use Rattle.drivers.specs.CuttingPlane.{State, run_fits, check_of, check_state}
use Rattle.drivers.specs.CuttingPlaneFeas.{cut_answer, feas_cut, feas_step, StepAnswer}

-- ---- the tests of a state

-- what they ask for: n in its range, the lengths that n and the rows say, legal bands and cursors
pub record Fitting (n rows : ℕ) (table : List Float) (s : State) : Type 0 where
  pub ndim_is : s.ell.ndim ≡ n
  pub dimension : is_dimension n ≡ true
  pub table_long : length table ≡ rows * n
  pub long : EllLong n s.buffers
  pub grad_long : length s.grad ≡ n
  pub bands : bands_fit s.oracle rows ≡ true
  pub cursors : cursors_fit s.oracle ≡ true

module _ (rows : ℕ) (table : List Float) (s : State) where
  -- the test of the lengths
  abbrev state_fits : ℕ → Bool
  state_fits n = run_fits n rows (length table) (length s.buffers.mq) (length s.buffers.xc) (length s.grad) (length s.buffers.grad_t)

  -- a state that is sound has it, and one that has it is sound
  pub sound_fits : check_state rows table s ≡ Sound → Fitting s.ell.ndim rows table s
  unfolding check_of
  sound_fits e =
      let n = s.ell.ndim in
      let F = oracle_fits s.oracle n rows (state_fits n) e in
      let p₄ = and_parts _ (eqb (length s.buffers.grad_t) n) F.long in
      let p₃ = and_parts _ (eqb (length s.grad) n) p₄.0 in
      let p₂ = and_parts _ (eqb (length s.buffers.mq) (n * n)) p₃.0 in
      let p₁ = and_parts (eqb (length table) (rows * n)) (eqb (length s.buffers.xc) n) p₂.0 in
      record {
        ndim_is = refl;
        dimension = F.dimension;
        table_long = eqb-true _ (rows * n) p₁.0;
        long = record { mq_long = eqb-true _ (n * n) p₂.1; xc_long = eqb-true _ n p₁.1; grad_t_long = eqb-true _ n p₄.1 };
        grad_long = eqb-true _ n p₃.1;
        bands = F.bands;
        cursors = F.cursors;
      }

  module _ (n : ℕ) (h : Fitting n rows table s) where
    pub fits_sound : check_state rows table s ≡ Sound
    unfolding check_of
    fits_sound =
        rw h.ndim_is (sym (fits_oracle s.oracle n rows (state_fits n) (record { dimension = h.dimension; long = fit; bands = h.bands; cursors = h.cursors })))
      where
        fit : state_fits n ≡ true
        fit =
            rw (
              eq-eqb (length table) (rows * n) h.table_long,
              eq-eqb (length s.buffers.xc) n h.long.xc_long,
              eq-eqb (length s.buffers.mq) (n * n) h.long.mq_long,
              eq-eqb (length s.grad) n h.grad_long,
              eq-eqb (length s.buffers.grad_t) n h.long.grad_t_long,
            )

    -- the oracle and the ellipsoid accept it
    pub oracle_accepts : is_accepted s.oracle n rows table s.buffers.xc s.grad ≡ true
    oracle_accepts =
        accepted_by s.oracle n rows table s.buffers.xc s.grad (record {
          dimension = h.dimension;
          long = rw (eq-eqb (length table) (rows * n) h.table_long, eq-eqb (length s.buffers.xc) n h.long.xc_long, eq-eqb (length s.grad) n h.grad_long);
          bands = h.bands;
          cursors = h.cursors;
        })

    pub ell_accepts : (grad : List Float) → length grad ≡ n → ell_fits n grad s.buffers ≡ true
    ell_accepts grad l =
        rw (eq-eqb (length grad) n l, eq-eqb (length s.buffers.mq) (n * n) h.long.mq_long, eq-eqb (length s.buffers.xc) n h.long.xc_long, eq-eqb (length s.buffers.grad_t) n h.long.grad_t_long)

-- ---- a step

-- what a step asks: whether the centre is feasible
abbrev pub centre_asked : ℕ → List Float → State → Question
centre_asked rows table s = asked s.oracle s.oracle.sp_sq s.ell.ndim rows table s.buffers.xc

abbrev pub says_feasible : StepAnswer → Bool
says_feasible (Ok None) = true
says_feasible (Ok (Some made)) = false
says_feasible (Err why) = false

abbrev pub says_refused : StepAnswer → Bool
says_refused (Ok None) = false
says_refused (Ok (Some made)) = false
says_refused (Err why) = true

-- a step from a state that is sound: it is not refused, it says whether the centre is feasible, it leaves a feasible centre unchanged, and the state that it leaves is right again
pub record Stepped (rows : ℕ) (table : List Float) (s : State) (r : StepAnswer × State) : Type 0 where
  pub not_refused : says_refused r.0 ≡ false
  pub verdict_is : says_feasible r.0 ≡ is_feasible (judge (centre_asked rows table s))
  pub centre_stays : says_feasible r.0 ≡ true → r.1.buffers ≡ s.buffers
  pub ndim_stays : r.1.ell.ndim ≡ s.ell.ndim
  pub limits_stay : limits r.1.oracle ≡ limits s.oracle
  pub sound : check_state rows table r.1 ≡ Sound

cut_infeasible : (broken : Cut) → is_feasible (judgement (Ok (Some broken))) ≡ false
cut_infeasible broken = go broken.group
  where
    go : (g : Group) → is_feasible (group_judgement g) ≡ false
    go (Pass row over) = refl
    go (Stop row over) = refl
    go (Middle row) = refl
    go Sign = refl

pub step_sound : (rows : ℕ) (table : List Float) (s : State) → check_state rows table s ≡ Sound → Stepped rows table s (feas_step rows table s)
unfolding feas_step
step_sound rows table s sound =
    let a = assess_feas_answer s.oracle n rows table s.buffers.xc s.grad in
    go a.0.oracle a.0.verdict a.1 (λ x' l. assess_again s.oracle n rows table s.buffers.xc s.grad ok x' a.1 l g_long) g_long (feas_rule s.oracle n rows table s.buffers.xc s.grad ok).verdict_is
    (assess_kept s.oracle n rows table s.buffers.xc s.grad)
  where
    n : ℕ
    n = s.ell.ndim

    h : Fitting n rows table s
    h = sound_fits rows table s sound

    ok : is_accepted s.oracle n rows table s.buffers.xc s.grad ≡ true
    ok = oracle_accepts rows table s n h

    g_long : length (assess_feas_answer s.oracle n rows table s.buffers.xc s.grad).1 ≡ n
    g_long = gradient_length s.oracle n rows table s.buffers.xc s.grad ok

    go : (o : LowpassOracle) (v : Verdict) (g : List Float) → ((x : List Float) → length x ≡ n → is_accepted o n rows table x g ≡ true) → length g ≡ n
        → judgement v ≡ judge (centre_asked rows table s) → limits o ≡ limits s.oracle → Stepped rows table s (feas_cut s o v g)
    go o (Ok None) g again l e k =
        let a = accepted_of o n rows table s.buffers.xc g (again s.buffers.xc h.long.xc_long) in
        record {
          not_refused = refl;
          verdict_is = ap is_feasible e;
          centre_stays = λ _. refl;
          ndim_stays = refl;
          limits_stay = k;
          sound = fits_sound rows table (feas_cut s o (Ok None) g).1 n (record { ndim_is = refl; dimension = h.dimension; table_long = h.table_long; long = h.long; grad_long = l; bands = a.bands; cursors = a.cursors });
        }
    go o (Ok (Some broken)) g again l e k =
        let fits = ell_accepts rows table s n h g l in
        let a = accepted_of o n rows table s.buffers.xc g (again s.buffers.xc h.long.xc_long) in
        let u = ell_update_answer s.ell BiasCut g broken.beta s.buffers in
        let answer = ap (λ z. cut_answer broken z) (ell_answers s.ell BiasCut g broken.beta s.buffers h.dimension fits).answer_is in
        record {
          not_refused = ap says_refused answer;
          verdict_is = ap says_feasible answer ∙ sym (cut_infeasible broken) ∙ ap is_feasible e;
          centre_stays = λ t. absurd (true≢false (sym t ∙ ap says_feasible answer));
          ndim_stays = (ell_same s.ell BiasCut g broken.beta s.buffers).0;
          limits_stay = k;
          sound = fits_sound rows table (feas_cut s o (Ok (Some broken)) g).1 n (record {
            ndim_is = (ell_same s.ell BiasCut g broken.beta s.buffers).0;
            dimension = h.dimension;
            table_long = h.table_long;
            long = ell_long n g u.1 (ell_again s.ell BiasCut g broken.beta s.buffers fits g l);
            grad_long = l;
            bands = a.bands;
            cursors = a.cursors;
          });
        }
    go o (Err why) g again l e k = absurd (judge_answers (centre_asked rows table s) (sym e))
