-- Demand 3, the cursor rule, clause by clause, of `assess_feas` and of `assess_optim`. Assumes nothing.
use Rattle.std.specs.Prelude.{ℕ, ◌≤◌, ◌<◌, ◌≡◌, refl, Bool, true, false, ◌&&◌, ◌||◌, List, leb, ltb, get_or, Float, Some, None, Ok, Err}
use Rattle.std.proofs.Common.{sym, ◌∙◌, true≢false, leb-true, ltb-true}
use Rattle.std.specs.Float.{nan, inf, fin}
use Rattle.std.specs.Float.Ieee.{is_nan, lt, eq}
use Rattle.numbers.specs.F64.{0ᶠ}
use Rattle.numbers.specs.Pick.{pick}
use Rattle.numbers.specs.laws.Pick.{and_parts}
use Rattle.oracles.specs.LowpassOracle.{Verdict, offered, assess_feas_answer, assess_optim_answer}
use Rattle.oracles.specs.Verdict.{Judgement, feasible, pass, stop, middle, sign, refused, Question, pass_end, stop_start, value_in, pass_breaks, stop_breaks, middle_breaks, sign_breaks, pass_broken, stop_broken, middle_broken, judge, Unbroken, no_stop_value, asked, limits, is_accepted, judgement, side_breaks, group_breaks, cut_breaks, Has, Peak, as_feas, is_six, is_feasible}
use Rattle.oracles.specs.laws.Judge.{judge_pass, judge_stop, judge_middle, judge_sign, judge_none, judge_feasible, unbroken_feasible}
use Rattle.oracles.specs.laws.CursorRule.{feas_rule, optim_rule}
use Rattle.oracles.specs.laws.TwoOracles.{same_verdict, same_peak, same_optim, same_optim_peak}
use Rattle.oracles.specs.declared.lowpass_oracle.LowpassOracle.{LowpassOracle}
use Rattle.oracles.specs.declared.lowpass_oracle.Group.{Group}
use Rattle.oracles.specs.declared.lowpass_oracle.Group.TheVariants.{Pass, Stop, Middle, Sign}

-- ---- the words

-- "the first broken group, in that order"
abbrev pub First : Question → Judgement → Type 0
First q feasible = Unbroken q
First q pass = pass_broken q ≡ true
First q stop = (pass_broken q ≡ false) × (stop_broken q ≡ true)
First q middle = (pass_broken q ≡ false) × (stop_broken q ≡ false) × (middle_broken q ≡ true)
First q sign = (pass_broken q ≡ false) × (stop_broken q ≡ false) × (middle_broken q ≡ false) × (sign_breaks q ≡ true)
First q refused = ⊥

-- "the cut's row, if any, is one of that group's and breaks it"
abbrev pub GroupBreaks : Question → Group → Type 0
GroupBreaks q (Pass row over) = (row < pass_end q) × (pass_breaks q row ≡ true)
GroupBreaks q (Stop row over) = (stop_start q ≤ row) × (row < q.rows) × (stop_breaks q row ≡ true)
GroupBreaks q (Middle row) = (pass_end q ≤ row) × (row < stop_start q) × (middle_breaks q row ≡ true)
GroupBreaks q Sign = sign_breaks q ≡ true

abbrev pub RowBreaks : Question → Verdict → Type 0
RowBreaks q (Ok None) = Unit {0}
RowBreaks q (Ok (Some c)) = GroupBreaks q c.group
RowBreaks q (Err why) = Unit {0}

-- "It is feasible exactly when no pass row's rounded dot product lies outside its two limits, no stop row's above its limit or below zero, no middle row's below zero, and the first
-- coefficient isn't below zero" .. "Otherwise the verdict is the first broken group, in that order, and the cut's row, if any, is one of that group's and breaks it."
pub record Agrees (q : Question) (v : Verdict) : Type 0 where
  pub feasible_only : judgement v ≡ feasible → Unbroken q
  pub feasible_if : Unbroken q → judgement v ≡ feasible
  pub otherwise : First q (judgement v)
  pub row_breaks : RowBreaks q v

-- "NaN breaks nothing"
pub record Unordered (q : Question) (i : ℕ) : Type 0 where
  pub no_pass : pass_breaks q i ≡ false
  pub no_stop : stop_breaks q i ≡ false
  pub no_middle : middle_breaks q i ≡ false

-- an oracle that a call accepts: whatever it holds in its cursors, row numbers, largest value and flag
abbrev pub Accepts : LowpassOracle → ℕ → ℕ → List Float → List Float → List Float → Type 0
Accepts o n rows table x grad = is_accepted o n rows table x grad ≡ true

-- ---- each accepted call

judge_first : (q : Question) → First q (judge q)
judge_first q = go (pass_broken q) refl (stop_broken q) refl (middle_broken q) refl (sign_breaks q) refl
  where
    by : (j : Judgement) → judge q ≡ j → First q j → First q (judge q)
    by j e f = rw e f

    go : (a : Bool) → pass_broken q ≡ a → (b : Bool) → stop_broken q ≡ b → (c : Bool) → middle_broken q ≡ c → (d : Bool) → sign_breaks q ≡ d → First q (judge q)
    go true e₁ b e₂ c e₃ d e₄ = by pass (judge_pass q e₁) e₁
    go false e₁ true e₂ c e₃ d e₄ = by stop (judge_stop q e₁ e₂) (e₁, e₂)
    go false e₁ false e₂ true e₃ d e₄ = by middle (judge_middle q e₁ e₂ e₃) (e₁, e₂, e₃)
    go false e₁ false e₂ false e₃ true e₄ = by sign (judge_sign q e₁ e₂ e₃ e₄) (e₁, e₂, e₃, e₄)
    go false e₁ false e₂ false e₃ false e₄ =
        let e = judge_none q e₁ e₂ e₃ e₄ in
        by feasible e (judge_feasible q e)

-- a side that is broken breaks the limits
either_side : (over : Bool) (upper lower v : Float) → side_breaks over upper lower v ≡ true → (lt upper v || lt v lower) ≡ true
unfolding pick
either_side true upper lower v e = rw e
either_side false upper lower v e = go (lt upper v)
  where
    go : (t : Bool) → (t || lt v lower) ≡ true
    go true = refl
    go false = e

group_of : (q : Question) (g : Group) → group_breaks q g ≡ true → GroupBreaks q g
group_of q (Pass row over) e =
    let a = and_parts (ltb row (pass_end q)) (side_breaks over q.limits.up_sq q.limits.lp_sq (value_in q row)) e in
    (ltb-true row (pass_end q) a.0, either_side over _ _ _ a.1)
group_of q (Stop row over) e =
    let a = and_parts (leb (stop_start q) row && ltb row q.rows) (side_breaks over q.limits.sp_sq 0ᶠ (value_in q row)) e in
    let b = and_parts (leb (stop_start q) row) (ltb row q.rows) a.0 in
    (leb-true (stop_start q) row b.0, ltb-true row q.rows b.1, either_side over _ _ _ a.1)
group_of q (Middle row) e =
    let a = and_parts (leb (pass_end q) row && ltb row (stop_start q)) (lt (value_in q row) 0ᶠ) e in
    let b = and_parts (leb (pass_end q) row) (ltb row (stop_start q)) a.0 in
    (leb-true (pass_end q) row b.0, ltb-true row (stop_start q) b.1, a.1)
group_of q Sign e = e

row_of : (q : Question) (v : Verdict) → cut_breaks q v ≡ true → RowBreaks q v
row_of q (Ok None) e = tt
row_of q (Ok (Some c)) e = group_of q c.group e
row_of q (Err why) e = tt

agrees : (q : Question) (v : Verdict) → judgement v ≡ judge q → cut_breaks q v ≡ true → Agrees q v
agrees q v e c = record {
  feasible_only = λ h. judge_feasible q (sym e ∙ h);
  feasible_if = λ u. e ∙ unbroken_feasible q u;
  otherwise = rw e (judge_first q);
  row_breaks = row_of q v c;
}

-- NaN is neither below nor above anything
nan_below : (a b : Float) → is_nan b ≡ true → lt a b ≡ false
unfolding lt is_nan
nan_below nan nan e = refl
nan_below (inf s) nan e = refl
nan_below (fin s m k) nan e = refl
nan_below a (inf s) e = absurd (true≢false (sym e))
nan_below a (fin s m k) e = absurd (true≢false (sym e))

nan_above : (a b : Float) → is_nan a ≡ true → lt a b ≡ false
unfolding lt is_nan
nan_above nan b e = refl
nan_above (inf s) b e = absurd (true≢false (sym e))
nan_above (fin s m k) b e = absurd (true≢false (sym e))

pub nan_breaks_nothing : (q : Question) (i : ℕ) → is_nan (value_in q i) ≡ true → Unordered q i
nan_breaks_nothing q i h = record {
  no_pass = rw (nan_below q.limits.up_sq (value_in q i) h, nan_above (value_in q i) q.limits.lp_sq h);
  no_stop = rw (nan_below q.limits.sp_sq (value_in q i) h, nan_above (value_in q i) 0ᶠ h);
  no_middle = nan_above (value_in q i) 0ᶠ h;
}

pub nan_sign : (q : Question) → is_nan (get_or q.x 0 nan) ≡ true → sign_breaks q ≡ false
nan_sign q h = nan_above (get_or q.x 0 nan) 0ᶠ h

module _ (o : LowpassOracle) (n rows : ℕ) (table x grad : List Float) (a : Accepts o n rows table x grad) where
  abbrev feas_verdict : Verdict
  feas_verdict = (assess_feas_answer o n rows table x grad).0.verdict

  -- `assess_feas`: the sp_sq stored in the oracle is asked about
  pub feas_agrees : Agrees (asked o o.sp_sq n rows table x) feas_verdict
  feas_agrees = let r = feas_rule o n rows table x grad a in agrees _ _ r.verdict_is r.cut_is

  -- "A feasible point's largest stop value, minus infinity where no stop row compares, is one number .. and the row reported with it, if any, has that value."
  pub feas_largest : judgement feas_verdict ≡ feasible
      → let left = (assess_feas_answer o n rows table x grad).0.oracle in Peak (asked o o.sp_sq n rows table x) left.fmax left.kmax
  feas_largest h = let r = feas_rule o n rows table x grad a in r.peak (sym r.verdict_is ∙ h)

  -- `assess_optim`: the offered one; refusal 6 counts as feasible, and comes exactly where no stop row of a feasible point compares
  module _ (gamma : Float) where
    abbrev optim_verdict : Verdict
    optim_verdict = as_feas (assess_optim_answer o gamma n rows table x grad).0.verdict

    pub optim_agrees : Agrees (asked o gamma n rows table x) optim_verdict
    optim_agrees = let r = optim_rule o gamma n rows table x grad a in agrees _ _ r.verdict_is r.cut_is

    pub optim_largest : judgement optim_verdict ≡ feasible → is_six (assess_optim_answer o gamma n rows table x grad).0.verdict ≡ false
        → let left = (assess_optim_answer o gamma n rows table x grad).0.oracle in Has (asked o gamma n rows table x) left.fmax left.kmax
    optim_largest h s = let r = optim_rule o gamma n rows table x grad a in r.peak s (sym r.verdict_is ∙ h)

    pub six_where : is_six (assess_optim_answer o gamma n rows table x grad).0.verdict ≡ (is_feasible (judge (asked o gamma n rows table x)) && no_stop_value (asked o gamma n rows table x))
    six_where = (optim_rule o gamma n rows table x grad a).six_is

-- ---- "Wherever the three cursors may stand, and whatever row numbers, largest value and flag the last point left in the oracle, the verdict on a point is the same":
-- two oracles of equal bands and limits, and no more of them

module _ (o o' : LowpassOracle) (n rows : ℕ) (table x grad grad' : List Float) (a : Accepts o n rows table x grad) (a' : Accepts o' n rows table x grad') where
  pub one_verdict : limits o ≡ limits o' → judgement (feas_verdict o n rows table x grad a) ≡ judgement (feas_verdict o' n rows table x grad' a')
  one_verdict e = same_verdict o o' n rows table x grad grad' e a a'

  -- "A feasible point's largest stop value is one number whatever the start, both zeros equal"
  pub one_value : limits o ≡ limits o' → judgement (feas_verdict o n rows table x grad a) ≡ feasible
      → eq (assess_feas_answer o n rows table x grad).0.oracle.fmax (assess_feas_answer o' n rows table x grad').0.oracle.fmax ≡ true
  one_value e h = same_peak o o' n rows table x grad grad' e a a' h

  -- the same of `assess_optim`, whatever sp_sq is stored
  module _ (gamma : Float) (e : limits (offered o gamma) ≡ limits (offered o' gamma)) where
    pub one_optim_verdict : judgement (optim_verdict o n rows table x grad a gamma) ≡ judgement (optim_verdict o' n rows table x grad' a' gamma)
    one_optim_verdict = (same_optim o o' n rows table x grad grad' gamma e a a').0

    -- 6 comes from both or from neither
    pub one_six : is_six (assess_optim_answer o gamma n rows table x grad).0.verdict ≡ is_six (assess_optim_answer o' gamma n rows table x grad').0.verdict
    one_six = (same_optim o o' n rows table x grad grad' gamma e a a').1

    pub one_optim_value : judgement (optim_verdict o n rows table x grad a gamma) ≡ feasible → is_six (assess_optim_answer o gamma n rows table x grad).0.verdict ≡ false
        → eq (assess_optim_answer o gamma n rows table x grad).0.oracle.fmax (assess_optim_answer o' gamma n rows table x grad').0.oracle.fmax ≡ true
    one_optim_value h s = (same_optim_peak o o' n rows table x grad grad' gamma e a a' h s).0

    -- and so is the caller's number
    pub one_offer : judgement (optim_verdict o n rows table x grad a gamma) ≡ feasible → is_six (assess_optim_answer o gamma n rows table x grad).0.verdict ≡ false
        → eq (assess_optim_answer o gamma n rows table x grad).0.gamma (assess_optim_answer o' gamma n rows table x grad').0.gamma ≡ true
    one_offer h s = (same_optim_peak o o' n rows table x grad grad' gamma e a a' h s).1
