-- Demand 3: the verdict on a point and its largest stop value follow from the point alone; a cut's row is one of the broken group's and breaks it, wherever the cursors stand. Assumes nothing.
use Rattle.std.specs.Prelude.{◌≡◌, Bool, true, false, not, ◌&&◌, List, ℕ, ◌≤◌, ◌<◌, ◌+◌, ◌-◌, eqb, get_or, length, ℤ, pos, nat_abs, Float, is_err, Ok, Err, Some, None, Result, Option}
use Rattle.std.proofs.Math.Path.{refl}
use Rattle.std.proofs.Common.{sym, ap, subst, ◌∙◌, true≢false, inl, inr, arith, le-leb, lt-ltb, le-ltb}
use Rattle.std.proofs.Math.Nat.{sub-zero}
use Rattle.std.specs.Int.Signed.{lt_z}
use Rattle.std.specs.Float.{nan}
use Rattle.std.specs.Float.Ieee.{lt, neg, is_nan}
use Rattle.numbers.specs.F64.{0ᶠ}
use Rattle.numbers.specs.Pick.{pick, some}
use Rattle.numbers.specs.Refusal.{refusal_number, unless, Sound, Tests}
use Rattle.numbers.specs.declared.refusal.Refusal.{Refusal}
use Rattle.numbers.specs.declared.cut.CutChoice.TheVariants.{Single}
use Rattle.numbers.specs.laws.Pick.{none_some, some_holds}
use Rattle.numbers.specs.laws.Refusal.{of_test, of_chain, by_tests}
use Rattle.oracles.specs.laws.RoundRobin.{eq_z_yes}
use Rattle.oracles.specs.laws.FloatOrder.{only_nan}
use Rattle.oracles.specs.Scan.{−∞, none, scan_of, band_beta, broken_at}
use Rattle.oracles.specs.Table.{value_of, table_fits}
use Rattle.oracles.specs.laws.Scan.{row_breaks, Found, Passed, found_in, top_in, passed_in, nothing_none, broken_some}
use Rattle.oracles.specs.LowpassOracle.{offered, assess_of, improved_of, optim_of, oracle_tests, assess_tests, assess_feas_answer, assess_optim_answer, Verdict, cut}
use Rattle.oracles.specs.laws.Assess.{Spans, Fit, fit_of, pass_scan, stop_scan, middle_scan, pass_left, stop_left, middle_left, assess_cases, accepted_of, accepted_is}
use Rattle.oracles.specs.Verdict.{refused, Question, stop_start, value_in, sign_breaks, pass_broken, stop_broken, middle_broken, judge, no_stop_value, asked, is_accepted, judgement, side_breaks, cut_breaks, cut_stands, Has, Peak, FeasRule, as_feas, is_six, is_feasible, OptimRule, group_judgement}
use Rattle.oracles.specs.laws.Judge.{judge_pass, judge_stop, judge_middle, judge_sign, judge_none, judge_answers}
use Rattle.oracles.specs.declared.round_robin.RoundRobin.{RoundRobin}
use Rattle.oracles.specs.declared.lowpass_oracle.LowpassOracle.{LowpassOracle}
use Rattle.oracles.specs.declared.lowpass_oracle.Group.{Group}
use Rattle.oracles.specs.declared.lowpass_oracle.Group.TheVariants.{Pass, Stop, Middle, Sign}
use Rattle.oracles.specs.declared.lowpass_oracle.OptimVerdict.{OptimVerdict}
use Rattle.oracles.specs.declared.lowpass_oracle.OptimVerdict.TheVariants.{Improved, Cut as CutOptim}
use Rattle.oracles.specs.declared.lowpass_oracle.Assessed.{Assessed}

-- ---- the rule of an assessment

-- the laws of a scan, over a band that is named
module _ (n : ℕ) (table x : List Float) (c : RoundRobin) (lower : Float) (upper : Option Float) (from past : ℕ) (S : Spans c from past) where
  band_clear : (scan_of n table x c lower upper).viol ≡ None → some (row_breaks n table x lower upper) from (past - from) ≡ false
  band_clear e = rw (S.from_is, S.past_is) at (nothing_none n table x c lower upper S.legal e)

  band_broken : (row : ℕ) (v : Float) (over : Bool) → (scan_of n table x c lower upper).viol ≡ broken_at row v over → some (row_breaks n table x lower upper) from (past - from) ≡ true
  band_broken row v over e = rw (S.from_is, S.past_is) at (broken_some n table x c lower upper S.legal row v over e)

  pub band_found : (row : ℕ) (v : Float) (over : Bool) → (scan_of n table x c lower upper).viol ≡ broken_at row v over
      → Found n table x from past lower upper row v over (scan_of n table x c lower upper).last
  band_found row v over e = rw (S.from_is, S.past_is) at (found_in n table x c lower upper S.legal row v over e)

-- the side that a violation breaks
found_side : (n : ℕ) (table x : List Float) (from past : ℕ) (lower upper : Float) (row : ℕ) (v : Float) (over : Bool) (last : ℤ)
    → Found n table x from past lower (Some upper) row v over last → side_breaks over upper lower (value_of n table x row) ≡ true
unfolding pick
found_side n table x from past lower upper row v true last f = rw (← f.value_is) (f.above refl)
found_side n table x from past lower upper row v false last f = rw (← f.value_is) (f.below refl).1

found_under : (n : ℕ) (table x : List Float) (from past : ℕ) (lower : Float) (row : ℕ) (v : Float) (over : Bool) (last : ℤ)
    → Found n table x from past lower None row v over last → lt (value_of n table x row) lower ≡ true
found_under n table x from past lower row v true last f = absurd (true≢false (sym (f.above refl)))
found_under n table x from past lower row v false last f = rw (← f.value_is) (f.below refl).1

-- the rule of a cut, which asks nothing of the largest value
cut_rule : (q : Question) (r : Assessed) → is_feasible (judgement r.verdict) ≡ false → judge q ≡ judgement r.verdict
    → cut_breaks q r.verdict ≡ true → cut_stands r.oracle r.verdict ≡ true → FeasRule q r
cut_rule q r h j c a = record { verdict_is = sym j; cut_is = c; cut_at = a; peak = λ e. absurd (true≢false (sym (ap is_feasible e) ∙ ap is_feasible j ∙ h)) }

-- the largest value of a stop scan that finds nothing
peak_of : (q : Question) (c : RoundRobin) → Spans c (stop_start q) q.rows → (scan_of q.n q.table q.x c 0ᶠ (Some q.limits.sp_sq)).viol ≡ None
    → Peak q (scan_of q.n q.table q.x c 0ᶠ (Some q.limits.sp_sq)).fmax (scan_of q.n q.table q.x c 0ᶠ (Some q.limits.sp_sq)).kmax
unfolding no_stop_value
peak_of q c S e = elim (top_in q.n q.table q.x c 0ᶠ (Some q.limits.sp_sq) S.legal) [
  | inl t ↦ inr (record { nothing = rw (none_some (λ i. not (is_nan (value_in q i))) (stop_start q) (q.rows - stop_start q) (all_nan t.0)); fmax_is = t.0; kmax_is = t.1 })
  | inr b ↦ inl (record {
    row = b.row;
    row_is = b.row_is;
    low = rw S.from_is at b.low;
    high = rw S.past_is at b.high;
    value_is = b.value_is;
    compares = b.compares;
    largest = λ i l h. (row_passed i l h).not_above;
  })
]
  where
    row_passed : (i : ℕ) → stop_start q ≤ i → i < q.rows → Passed q.n q.table q.x 0ᶠ (Some q.limits.sp_sq) (scan_of q.n q.table q.x c 0ᶠ (Some q.limits.sp_sq)).fmax i
    row_passed i l h = passed_in q.n q.table q.x c 0ᶠ (Some q.limits.sp_sq) S.legal e i (rw S.from_is l) (rw S.past_is h)

    all_nan : (scan_of q.n q.table q.x c 0ᶠ (Some q.limits.sp_sq)).fmax ≡ −∞ → (i : ℕ) → stop_start q ≤ i → i < stop_start q + (q.rows - stop_start q) → not (is_nan (value_in q i)) ≡ false
    all_nan f i l h =
        let p = row_passed i l (omega arith) in
        rw (only_nan (value_in q i) (rw f at p.not_above) p.not_under)

module _ (o : LowpassOracle) (n rows : ℕ) (table x : List Float) (F : Fit o rows) where
  -- what is asked
  abbrev point : Question
  point = asked o o.sp_sq n rows table x

  -- a scan that finds nothing: no row of its group breaks it
  pass_clear : (pass_scan o n table x).viol ≡ None → pass_broken point ≡ false
  pass_clear e = rw (sub-zero (nat_abs o.nwpass)) at (band_clear n table x o.rr1 o.lp_sq (Some o.up_sq) 0 (nat_abs o.nwpass) F.pass_rows e)

  stop_clear : (stop_scan o n table x).viol ≡ None → stop_broken point ≡ false
  stop_clear e = band_clear n table x o.rr3 0ᶠ (Some o.sp_sq) (nat_abs o.nwstop) rows F.stop_rows e

  middle_clear : (middle_scan o n table x).viol ≡ None → middle_broken point ≡ false
  middle_clear e = band_clear n table x o.rr2 0ᶠ None (nat_abs o.nwpass) (nat_abs o.nwstop) F.middle_rows e

  -- the rule, way by way
  assess_rule : (grad : List Float) → FeasRule point (assess_of o n table x grad).0
  unfolding pick
  assess_rule grad = assess_cases o n table x grad (λ r. FeasRule point r.0) on_pass on_stop on_middle on_sign on_feasible
    where
      on_pass : (row : ℕ) (v : Float) (over : Bool) → (pass_scan o n table x).viol ≡ broken_at row v over
          → FeasRule point (record { oracle = pass_left o n table x; verdict = cut (Pass row over) (band_beta v over o.lp_sq (Some o.up_sq)) })
      on_pass row v over e =
          let f = band_found n table x o.rr1 o.lp_sq (Some o.up_sq) 0 (nat_abs o.nwpass) F.pass_rows row v over e in
          let b = band_broken n table x o.rr1 o.lp_sq (Some o.up_sq) 0 (nat_abs o.nwpass) F.pass_rows row v over e in
          cut_rule point _ refl (judge_pass point (rw (sub-zero (nat_abs o.nwpass)) at b))
          (rw (lt-ltb row (nat_abs o.nwpass) f.high) (found_side n table x _ _ _ _ row v over _ f)) (eq_z_yes _ (pos row) f.last_is)

      on_stop : (pass_scan o n table x).viol ≡ None → (row : ℕ) (v : Float) (over : Bool) → (stop_scan o n table x).viol ≡ broken_at row v over
          → FeasRule point (record { oracle = stop_left o n table x −∞ none; verdict = cut (Stop row over) (band_beta v over 0ᶠ (Some o.sp_sq)) })
      on_stop e₁ row v over e =
          let f = band_found n table x o.rr3 0ᶠ (Some o.sp_sq) (nat_abs o.nwstop) rows F.stop_rows row v over e in
          cut_rule point _ refl (judge_stop point (pass_clear e₁) (band_broken n table x o.rr3 0ᶠ (Some o.sp_sq) (nat_abs o.nwstop) rows F.stop_rows row v over e))
          (rw (le-leb (nat_abs o.nwstop) row f.low, lt-ltb row rows f.high) (found_side n table x _ _ _ _ row v over _ f)) (eq_z_yes _ (pos row) f.last_is)

      on_middle : (pass_scan o n table x).viol ≡ None → (stop_scan o n table x).viol ≡ None → (row : ℕ) (v : Float) (over : Bool) → (middle_scan o n table x).viol ≡ broken_at row v over
          → FeasRule point (record { oracle = middle_left o n table x true; verdict = cut (Middle row) (band_beta v over 0ᶠ None) })
      on_middle e₁ e₂ row v over e =
          let f = band_found n table x o.rr2 0ᶠ None (nat_abs o.nwpass) (nat_abs o.nwstop) F.middle_rows row v over e in
          cut_rule point _ refl
          (judge_middle point (pass_clear e₁) (stop_clear e₂) (band_broken n table x o.rr2 0ᶠ None (nat_abs o.nwpass) (nat_abs o.nwstop) F.middle_rows row v over e))
          (rw (le-leb (nat_abs o.nwpass) row f.low, lt-ltb row (nat_abs o.nwstop) f.high) (found_under n table x _ _ _ row v over _ f)) (eq_z_yes _ (pos row) f.last_is)

      on_sign : (pass_scan o n table x).viol ≡ None → (stop_scan o n table x).viol ≡ None → (middle_scan o n table x).viol ≡ None → sign_breaks point ≡ true
          → FeasRule point (record { oracle = middle_left o n table x false; verdict = cut Sign (Single (neg (get_or x 0 nan))) })
      on_sign e₁ e₂ e₃ e = cut_rule point _ refl (judge_sign point (pass_clear e₁) (stop_clear e₂) (middle_clear e₃) e) e refl

      on_feasible : (pass_scan o n table x).viol ≡ None → (stop_scan o n table x).viol ≡ None → (middle_scan o n table x).viol ≡ None → sign_breaks point ≡ false
          → FeasRule point (record { oracle = middle_left o n table x false; verdict = Ok None })
      on_feasible e₁ e₂ e₃ e =
          record {
            verdict_is = sym (judge_none point (pass_clear e₁) (stop_clear e₂) (middle_clear e₃) e);
            cut_is = refl;
            cut_at = refl;
            peak = λ j. peak_of point o.rr3 F.stop_rows e₂;
          }

-- ---- the rule of the two calls

-- an accepted `assess_feas` gives what FeasRule says
pub feas_rule : (o : LowpassOracle) (n rows : ℕ) (table x grad : List Float) → is_accepted o n rows table x grad ≡ true
    → FeasRule (asked o o.sp_sq n rows table x) (assess_feas_answer o n rows table x grad).0
feas_rule o n rows table x grad h =
    let a = accepted_of o n rows table x grad h in
    rw (accepted_is o n rows table x grad h) (assess_rule o n rows table x (fit_of o rows a.bands a.cursors) grad)

-- a row that has the largest value has one that compares
pub has_value : (q : Question) (fmax : Float) (kmax : ℤ) → Has q fmax kmax → no_stop_value q ≡ false
unfolding no_stop_value
has_value q fmax kmax h =
    rw (some_holds (λ i. not (is_nan (value_in q i))) (stop_start q) (q.rows - stop_start q) h.row h.low (omega arith) (rw (h.value_is, h.compares)))

-- what an answer of `assess_feas` to an accepted call becomes
optim_of_rule : (q : Question) (o : LowpassOracle) (gamma : Float) (n : ℕ) (table : List Float) (o' : LowpassOracle) (v : Verdict) (grad : List Float)
    → FeasRule q (record { oracle = o'; verdict = v }) → OptimRule q (optim_of o gamma n table o' v grad).0
unfolding improved_of pick
optim_of_rule q o gamma n table o' (Ok None) grad r = elim (r.peak (sym r.verdict_is)) [
  | inl h ↦
      let t : lt_z o'.kmax (pos 0) ≡ false = rw h.row_is (le-ltb h.row 0 (omega arith)) in
      rw t (record { verdict_is = r.verdict_is; cut_is = refl; cut_at = refl; six_is = rw (← r.verdict_is) (sym (has_value q o'.fmax o'.kmax h)); peak = λ e j. h; offer = λ e j. refl })
  | inr h ↦
      let t : lt_z o'.kmax (pos 0) ≡ true = rw h.kmax_is in
      rw t (record { verdict_is = r.verdict_is; cut_is = refl; cut_at = refl; six_is = rw (← r.verdict_is) (sym h.nothing); peak = λ e j. absurd (true≢false e); offer = λ e j. absurd (true≢false e) })
]
optim_of_rule q o gamma n table o' (Ok (Some c)) grad r =
    record {
      verdict_is = r.verdict_is;
      cut_is = r.cut_is;
      cut_at = r.cut_at;
      six_is = rw (← r.verdict_is) (sym (ap (λ t. t && no_stop_value q) (cut_judgement c.group)));
      peak = λ e j. absurd (true≢false (sym (ap is_feasible (r.verdict_is ∙ j)) ∙ cut_judgement c.group));
      offer = λ e j. absurd (true≢false (sym (ap is_feasible (r.verdict_is ∙ j)) ∙ cut_judgement c.group));
    }
  where
    cut_judgement : (g : Group) → is_feasible (group_judgement g) ≡ false
    cut_judgement (Pass row over) = refl
    cut_judgement (Stop row over) = refl
    cut_judgement (Middle row) = refl
    cut_judgement Sign = refl
optim_of_rule q o gamma n table o' (Err why) grad r = absurd (judge_answers q (sym r.verdict_is))

-- an accepted `assess_optim` gives what OptimRule says, for the number offered
pub optim_rule : (o : LowpassOracle) (gamma : Float) (n rows : ℕ) (table x grad : List Float) → is_accepted o n rows table x grad ≡ true
    → OptimRule (asked o gamma n rows table x) (assess_optim_answer o gamma n rows table x grad).0
optim_rule o gamma n rows table x grad h =
    optim_of_rule (asked o gamma n rows table x) o gamma n table _ _ _ (feas_rule (offered o gamma) n rows table x grad h)

-- ---- what is not accepted is refused, by 1 to 4

-- a fault, if it is one, is not by refusal 6
pub record NotSix (f : Tests) : Type 0 where
  pub no : unless f (λ why place. eqb (refusal_number why) 6) false ≡ false

pub not_six : (o : LowpassOracle) (n rows : ℕ) (fit : Bool) → NotSix (oracle_tests o n rows fit)
not_six o n rows fit =
    let z : NotSix Sound = record { no = refl } in
    of_chain NotSix _ _ (of_chain NotSix _ _ (of_test NotSix _ _ _ z (record { no = refl })) (of_test NotSix _ _ _ z (record { no = refl })))
    (of_chain NotSix _ _ (of_test NotSix _ _ _ z (record { no = refl })) (of_test NotSix _ _ _ z (record { no = refl })))

no_fault_no : (o : LowpassOracle) (n rows : ℕ) (table x grad : List Float) → is_accepted o n rows table x grad ≡ false → assess_tests o n rows table x grad ≡ Sound → ⊥
no_fault_no o n rows table x grad h e = true≢false (ap (λ (f : Tests). not (is_err f)) (sym e) ∙ h)

-- `assess_feas`
pub refused_unless : (o : LowpassOracle) (n rows : ℕ) (table x grad : List Float) → is_accepted o n rows table x grad ≡ false → judgement (assess_feas_answer o n rows table x grad).0.verdict ≡ refused
unfolding assess_feas_answer
refused_unless o n rows table x grad h =
    by_tests (λ (r : Assessed × List Float). judgement r.0.verdict ≡ refused) (assess_tests o n rows table x grad) _ _
    (λ why place e. refl) (λ e. absurd (no_fault_no o n rows table x grad h e))

-- `assess_optim`; none of these is 6
pub optim_refused_unless : (o : LowpassOracle) (gamma : Float) (n rows : ℕ) (table x grad : List Float) → is_accepted o n rows table x grad ≡ false
    → judgement (as_feas (assess_optim_answer o gamma n rows table x grad).0.verdict) ≡ refused
unfolding assess_feas_answer pick
optim_refused_unless o gamma n rows table x grad h =
    by_tests (λ (r : Assessed × List Float). judgement (as_feas (optim_of o gamma n table r.0.oracle r.0.verdict r.1).0.verdict) ≡ refused)
    (assess_tests o n rows table x grad) _ _
    (λ why place e. rw (subst NotSix e (not_six o n rows (table_fits n rows table x && eqb (length grad) n))).no) (λ e. absurd (no_fault_no o n rows table x grad h e))

-- so 6 comes exactly from an accepted call, on a feasible point, where no stop value compares
pub six_exactly : (o : LowpassOracle) (gamma : Float) (n rows : ℕ) (table x grad : List Float)
    → is_six (assess_optim_answer o gamma n rows table x grad).0.verdict
    ≡ (is_accepted o n rows table x grad && is_feasible (judge (asked o gamma n rows table x)) && no_stop_value (asked o gamma n rows table x))
unfolding pick
six_exactly o gamma n rows table x grad = go (is_accepted o n rows table x grad) refl
  where
    tested_six : (t : Bool) (why : Refusal) → judgement (pick t (Ok None) (Err why)) ≡ refused → t ≡ false
    tested_six true why e = absurd (let z : ◌≡◌ {A = ℕ} 0 1 = cc in omega arith)
    tested_six false why e = refl

    no_six : (v : Result OptimVerdict Refusal) → judgement (as_feas v) ≡ refused → is_six v ≡ false
    no_six (Ok (Improved beta)) e = refl
    no_six (Ok (CutOptim c)) e = refl
    no_six (Err why) e = tested_six (eqb (refusal_number why) 6) why e

    go : (t : Bool) → is_accepted o n rows table x grad ≡ t
        → is_six (assess_optim_answer o gamma n rows table x grad).0.verdict
        ≡ (is_accepted o n rows table x grad && is_feasible (judge (asked o gamma n rows table x)) && no_stop_value (asked o gamma n rows table x))
    go true e = rw e (optim_rule o gamma n rows table x grad e).six_is
    go false e = rw e (no_six (assess_optim_answer o gamma n rows table x grad).0.verdict (optim_refused_unless o gamma n rows table x grad e))
