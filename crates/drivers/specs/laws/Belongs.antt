-- `belongs` from the assessment of the point that is asked about. Assumes nothing.
use Rattle.numbers.specs.declared.refusal.Refusal.{Refusal}
use Rattle.numbers.specs.Refusal.{Tests}
use Rattle.std.specs.Prelude.{◌≡◌, Bool, ◌&&◌, ◌*◌, eqb, length, Float, is_err, Err, None, Some, Ok, Result}
use Rattle.std.proofs.Math.Path.{refl, ap}
use Rattle.std.proofs.Common.{sym, ◌∙◌, true≢false, eq-eqb, eqb-true}
use Rattle.std.proofs.Math.Bool.{true, false, not}
use mathlib.Core.List.{List}
use Rattle.numbers.specs.Pick.{pick}
use Rattle.numbers.specs.Arr.{is_dimension}
use Rattle.numbers.specs.laws.Refusal.{failed, held, at_first, at_next, refuses, by_tests}
use Rattle.numbers.specs.declared.refusal.Refusal.TheVariants.{Dimension, Length}
use Rattle.numbers.specs.laws.Pick.{is_hit, is_skip, by_test, pick_cong, and_parts}
use Rattle.oracles.specs.Table.{table_fits}
use Rattle.oracles.specs.LowpassOracle.{oracle_tests, assess_tests, assess_feas_answer, Verdict}
use Rattle.oracles.specs.laws.Judge.{judge_answers}
use Rattle.oracles.specs.Verdict.{Judgement, feasible, pass, stop, middle, sign, refused, Question, judge, judgement, group_judgement, is_feasible, is_accepted}
use Rattle.oracles.specs.laws.CursorRule.{feas_rule}
use Rattle.oracles.specs.declared.lowpass_oracle.Assessed.{Assessed}
use Rattle.oracles.specs.declared.lowpass_oracle.Group.{Group}
use Rattle.oracles.specs.declared.lowpass_oracle.Group.TheVariants.{Pass, Stop, Middle, Sign}
use Rattle.drivers.specs.Belongs.{feasible_for, is_of, asked_point, belongs_tests, belongs_answer}
use Rattle.drivers.specs.Job.{job_oracle}
use Rattle.drivers.specs.declared.answer.Answer.{Answer}
use Rattle.drivers.specs.declared.job.Job.{Job}

-- ---- what the code makes of a verdict

-- what a verdict on the point that is asked about says, of an answer that has a point or has none
abbrev pub belonging_of : Verdict → Bool → Result Bool Refusal
belonging_of (Ok None) found = Ok found
belonging_of (Ok (Some broken)) found = Ok (not found)
belonging_of (Err why) found = Err why

and_true : (t : Bool) → (t && true) ≡ t
and_true true = refl
and_true false = refl

-- a judgement is no refusal
is_refused : Judgement → Bool
is_refused feasible = false
is_refused pass = false
is_refused stop = false
is_refused middle = false
is_refused sign = false
is_refused refused = true

judged : (q : Question) → is_refused (judge q) ≡ false
unfolding is_refused
judged q = go (judge q) refl
  where
    go : (j : Judgement) → judge q ≡ j → is_refused j ≡ false
    go feasible e = refl
    go pass e = refl
    go stop e = refl
    go middle e = refl
    go sign e = refl
    go refused e = absurd (judge_answers q e)

-- a group of constraints that is broken
infeasible : (g : Group) → is_feasible (group_judgement g) ≡ false
infeasible (Pass row over) = refl
infeasible (Stop row over) = refl
infeasible (Middle row) = refl
infeasible Sign = refl

-- what a verdict says of an answer, by its judgement
decided : (v : Verdict) (found : Bool) → is_refused (judgement v) ≡ false → belonging_of v found ≡ Ok (pick found (is_feasible (judgement v)) (not (is_feasible (judgement v))))
unfolding is_refused pick
decided (Ok None) true e = refl
decided (Ok None) false e = refl
decided (Ok (Some broken)) true e = ap Ok (sym (infeasible broken.group))
decided (Ok (Some broken)) false e = ap (λ (t : Bool). Ok (not t)) (sym (infeasible broken.group))
decided (Err why) found e = absurd (true≢false e)

module _ (j : Job) (table x : List Float) (a : Answer) (point grad : List Float) where
  -- both ways of an answer ask about one point
  one_point : is_of j table x a point ≡ pick a.found (feasible_for j table (asked_point a x point)) (not (feasible_for j table (asked_point a x point)))
  one_point =
      pick_cong a.found (λ t. ap (feasible_for j table) (sym (is_hit a.found point x t))) (λ t. ap (λ l. not (feasible_for j table l)) (sym (is_skip a.found point x t)))

  abbrev assessed : Assessed × List Float
  assessed = assess_feas_answer (job_oracle j) j.n j.rows table (asked_point a x point) grad

  -- what the assessment of that point makes of the answer
  abbrev says : Assessed × List Float → Result Bool Refusal × List Float
  says r = (belonging_of r.0.verdict a.found, r.1)

  -- the lengths that belongs tests are those that the assessment tests
  fits : length x ≡ j.n → length point ≡ j.n
      → (table_fits j.n j.rows table (asked_point a x point) && eqb (length grad) j.n) ≡ (table_fits j.n j.rows table x && eqb (length point) j.n && eqb (length grad) j.n)
  fits hx hp =
      let h : length (asked_point a x point) ≡ j.n = by_test (λ (l : List Float). length l ≡ j.n) a.found point x (λ t. hp) (λ t. hx) in
      rw (eq-eqb (length (asked_point a x point)) j.n h, eq-eqb (length x) j.n hx, eq-eqb (length point) j.n hp)
      (ap (λ (t : Bool). t && eqb (length grad) j.n) (sym (and_true (eqb (length table) (j.rows * j.n) && true))))

  -- an accepted assessment decides
  accepted_says : is_accepted (job_oracle j) j.n j.rows table (asked_point a x point) grad ≡ true → belonging_of assessed.0.verdict a.found ≡ Ok (is_of j table x a point)
  accepted_says h =
      let r = feas_rule (job_oracle j) j.n j.rows table (asked_point a x point) grad h in
      let v = r.verdict_is in
      decided assessed.0.verdict a.found (ap is_refused v ∙ judged _)
      ∙ ap (λ (w : Judgement). Ok (pick a.found (is_feasible w) (not (is_feasible w)))) v
      ∙ sym (ap Ok one_point)

  belongs_is : length x ≡ j.n → length point ≡ j.n → says assessed ≡ belongs_answer j table x a point grad
  unfolding belongs_answer assess_feas_answer
  belongs_is hx hp =
      let same : assess_tests (job_oracle j) j.n j.rows table (asked_point a x point) grad ≡ belongs_tests j table x point grad = ap (oracle_tests (job_oracle j) j.n j.rows) (fits hx hp) in
      by_tests (λ (r : Result Bool Refusal × List Float). says assessed ≡ r) (belongs_tests j table x point grad) _ _
      (λ why place e. ap says (sym (refuses _ _ (assess_tests (job_oracle j) j.n j.rows table (asked_point a x point) grad) (sym (same ∙ e)) refl)))
      (λ e. ap (λ (w : (Result Bool Refusal)). (w, assessed.1)) (accepted_says (ap (λ (f : Tests). not (is_err f)) (same ∙ e))))

  -- ---- the answer, from what the code's tests and its assessment r of the point p said, which left the gradient g

  pub no_dimension : is_dimension j.n ≡ false → (Err Dimension, grad) ≡ belongs_answer j table x a point grad
  unfolding belongs_answer
  no_dimension d = refuses _ _ _ (at_first _ (at_first _ (failed d))) refl

  pub no_length : is_dimension j.n ≡ true → (eqb (length x) j.n && eqb (length point) j.n) ≡ false → (Err Length, grad) ≡ belongs_answer j table x a point grad
  unfolding belongs_answer
  no_length d h =
      refuses _ _ _ (at_first _ (at_next (held _ _ d) (failed (neither (eqb (length table) (j.rows * j.n)) (eqb (length x) j.n) (eqb (length point) j.n) (eqb (length grad) j.n) h)))) refl
    where
      neither : (t u v w : Bool) → (u && v) ≡ false → (t && u && v && w) ≡ false
      neither true true true w e = absurd (true≢false e)
      neither true true false w e = refl
      neither true false v w e = refl
      neither false u v w e = refl

  pub belongs_by : (eqb (length x) j.n && eqb (length point) j.n) ≡ true → (p : List Float) → p ≡ asked_point a x point → (r : Assessed) (g : List Float)
      → (r, g) ≡ assess_feas_answer (job_oracle j) j.n j.rows table p grad → (b : (Result Bool Refusal)) → b ≡ belonging_of r.verdict a.found → (b, g) ≡ belongs_answer j table x a point grad
  belongs_by h p ep r g e b eb =
      let w = and_parts (eqb (length x) j.n) (eqb (length point) j.n) h in
      ap (λ (z : (Result Bool Refusal)). (z, g)) eb
      ∙ ap says (e ∙ ap (λ (l : List Float). assess_feas_answer (job_oracle j) j.n j.rows table l grad) ep)
      ∙ belongs_is (eqb-true (length x) j.n w.0) (eqb-true (length point) j.n w.1)
