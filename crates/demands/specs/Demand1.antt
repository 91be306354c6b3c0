-- Demand 1, call by call: "Refused, by a number in document 01: dimensions, slices, bands and cursors outside its limits, a witness or quadratic form at illegal positions, an improving cut
-- with no comparable stop row, a bad or overlong record, a short buffer. A refusal writes nothing; a driver halted midway keeps its finished steps. Accepted: everything else,
-- NaN and infinity too, and each accepted call finishes." (It finishes since what it answers is a definition's value, and the code's loops are proved to end.) The exported functions of the
-- static library are these calls again (ponduvizh/specs). Assumes nothing.
use Rattle.std.specs.Prelude.{ℕ, ◌≡◌, Bool, true, false, not, ◌&&◌, List, eqb, ℤ, Float, is_err, Option, None, Result, Ok, Err}
use Rattle.std.proofs.Math.Path.{refl, ap}
use Rattle.std.proofs.Common.{sym, ◌∙◌, true≢false, arith, eqb-true}
use Rattle.numbers.specs.Pick.{pick}
use Rattle.numbers.specs.Refusal.{refusal_number, ◌⨾◌, unless, fault_number, ask, Sound, Tests, number_of}
use Rattle.numbers.specs.laws.Pick.{is_hit, is_skip}
use Rattle.numbers.specs.laws.Refusal.{number_is, by_tests}
use Rattle.numbers.specs.Arr as arr
use Rattle.numbers.specs.EllCalc as calc
use Rattle.oracles.specs.RoundRobin as cursor
use Rattle.oracles.specs.Scan as scan
use Rattle.oracles.specs.LowpassOracle as lowpass
use Rattle.oracles.specs.LdltMgr as ldlt
use Rattle.oracles.specs.LmiOracle as lmi
use Rattle.oracles.specs.Ell as ell
use Rattle.oracles.specs.EllStable as stable
use Rattle.oracles.specs.Verdict.{judgement, refused as unanswered, judge, asked, is_accepted, is_feasible, is_six, as_feas, no_stop_value}
use Rattle.oracles.specs.laws.Judge.{judge_answers}
use Rattle.oracles.specs.laws.Assess.{accepted_is}
use Rattle.oracles.specs.laws.CursorRule.{feas_rule, optim_rule}
use Rattle.oracles.specs.declared.round_robin.RoundRobin.{RoundRobin}
use Rattle.oracles.specs.declared.lowpass_oracle.LowpassOracle.{LowpassOracle}
use Rattle.oracles.specs.declared.ldlt_mgr.Pos.{Pos}
use Rattle.oracles.specs.laws.EllCommon.{update_says}
use Rattle.oracles.specs.declared.ell_common.CutStrategy.{CutStrategy}
use Rattle.oracles.specs.declared.ell.Ell.{Ell}
use Rattle.oracles.specs.declared.ell_stable.EllStable.{EllStable}
use Rattle.numbers.specs.declared.cut.CutChoice.{CutChoice}
use Rattle.numbers.specs.declared.refusal.Refusal.{Refusal}
use Rattle.numbers.specs.declared.refusal.Refusal.TheVariants.{Dimension, Length, Band, Cursor, Position, NoStopValue, CutShort, ForeignTag, RepeatedTag, MissingTag, Room, Outcome}
use Rattle.oracles.specs.declared.lowpass_oracle.OptimVerdict.{OptimVerdict}
use Rattle.oracles.specs.declared.lowpass_oracle.OptimVerdict.TheVariants.{Improved, Cut as CutOptim}
use Rattle.oracles.specs.laws.Untouched.{is_improved, untouched}
use Rattle.oracles.specs.laws.OracleAfter.{is_refusal, optim_after}
use Rattle.oracles.specs.declared.lowpass_oracle.AssessedOptim.{AssessedOptim}

-- ---- what is said of a call

-- A call whose tests are `tests`: its answer's number is that of the first refusal among them, 0 where there is none, so that everything else is accepted;
-- and with a refusal all that the call was lent, and its state, are as they came. `left` is that part of the answer.
pub record Refuses {X L : Type 0} (tests : Tests) (number : X → ℕ) (left : X → L) (before : L) (answer : X) : Type 0 where
  pub by_number : number answer ≡ fault_number tests
  pub writes_nothing : is_err tests ≡ true → left answer ≡ before

pub refuses : {X L : Type 0} (tests : Tests) (number : X → ℕ) (left : X → L) (before : L) (refused : Refusal → ℕ → X) (done : X)
    → ((why : Refusal) (place : ℕ) → number (refused why place) ≡ refusal_number why) → ((why : Refusal) (place : ℕ) → left (refused why place) ≡ before)
    → (tests ≡ Sound → number done ≡ 0) → Refuses tests number left before (unless tests refused done)
refuses tests number left before refused done h k d = record {
  by_number = number_is number tests refused done h d;
  writes_nothing = by_tests (λ x. is_err tests ≡ true → left x ≡ before) tests refused done (λ why place e f. k why place) (λ e f. absurd (true≢false (sym (sym (ap is_err e) ∙ f))));
}

-- of a call that writes nothing and keeps no state
abbrev pub nothing : {X : Type 0} → X → Unit {0}
nothing x = tt

-- ---- numbers and calculators

pub dot : (n : ℕ) (a b : List Float) → Refuses (arr.dot_tests n a b) number_of nothing tt (arr.dot_answer n a b)
dot n a b = refuses _ _ _ _ _ _ (λ why place. refl) (λ why place. refl) (λ e. refl)

pub dot_mv_into : (n : ℕ) (mat x out : List Float) → Refuses (arr.dot_mv_into_tests n mat x out) (λ r. number_of r.0) (λ r. r.1) out (arr.dot_mv_into_answer n mat x out)
dot_mv_into n mat x out = refuses _ _ _ _ _ _ (λ why place. refl) (λ why place. refl) (λ e. refl)

pub copy_from : (n : ℕ) (dst src : List Float) → Refuses (arr.copy_from_tests n dst src) (λ r. number_of r.0) (λ r. r.1) dst (arr.copy_from_answer n dst src)
copy_from n dst src = refuses _ _ _ _ _ _ (λ why place. refl) (λ why place. refl) (λ e. refl)

pub eye : (n : ℕ) (out : List Float) → Refuses (arr.eye_tests n out) (λ r. number_of r.0) (λ r. r.1) out (arr.eye_answer n out)
eye n out = refuses _ _ _ _ _ _ (λ why place. refl) (λ why place. refl) (λ e. refl)

pub from_diag : (n : ℕ) (v out : List Float) → Refuses (arr.from_diag_tests n v out) (λ r. number_of r.0) (λ r. r.1) out (arr.from_diag_answer n v out)
from_diag n v out = refuses _ _ _ _ _ _ (λ why place. refl) (λ why place. refl) (λ e. refl)

pub new_calc : (n : ℕ) → Refuses (calc.new_tests n) number_of nothing tt (calc.new_answer n)
unfolding calc.new_answer
new_calc n = refuses _ _ _ _ _ _ (λ why place. refl) (λ why place. refl) (λ e. refl)

-- ---- oracles and ellipsoids

pub new_range : (lo hi : ℤ) → Refuses (cursor.new_range_tests lo hi) number_of nothing tt (cursor.new_range_answer lo hi)
unfolding cursor.new_range_answer
new_range lo hi = refuses _ _ _ _ _ _ (λ why place. refl) (λ why place. refl) (λ e. refl)

pub advance : (c : RoundRobin) → Refuses (cursor.advance_tests c) number_of nothing tt (cursor.advance_answer c)
unfolding cursor.advance_answer
advance c = refuses _ _ _ _ _ _ (λ why place. refl) (λ why place. refl) (λ e. refl)

pub scan_band : (n rows : ℕ) (table x : List Float) (c : RoundRobin) (lower : Float) (upper : Option Float) → Refuses (scan.scan_band_tests n rows table x c) (λ r. number_of r.0) (λ r. r.1) c (scan.scan_band_answer n rows table x c lower upper)
unfolding scan.scan_band_answer
scan_band n rows table x c lower upper = refuses _ _ _ _ _ _ (λ why place. refl) (λ why place. refl) (λ e. refl)

-- an assessment that the tests let through says something of the point
answered : (v : lowpass.Verdict) → (judgement v ≡ unanswered → ⊥) → number_of v ≡ 0
answered (Ok v) h = refl
answered (Err why) h = absurd (h refl)

accepted : (o : LowpassOracle) (n rows : ℕ) (table x grad : List Float) → lowpass.assess_tests o n rows table x grad ≡ Sound → is_accepted o n rows table x grad ≡ true
accepted o n rows table x grad e = ap (λ (f : Tests). not (is_err f)) e

assessed : (o : LowpassOracle) (n rows : ℕ) (table x grad : List Float) → lowpass.assess_tests o n rows table x grad ≡ Sound → number_of (lowpass.assess_of o n table x grad).0.verdict ≡ 0
assessed o n rows table x grad e =
    let a = accepted o n rows table x grad e in
    let r = feas_rule o n rows table x grad a in
    ap (λ z. number_of z.0.verdict) (sym (accepted_is o n rows table x grad a))
    ∙ answered (lowpass.assess_feas_answer o n rows table x grad).0.verdict (λ h. judge_answers (asked o o.sp_sq n rows table x) (sym r.verdict_is ∙ h))

pub assess_feas : (o : LowpassOracle) (n rows : ℕ) (table x grad : List Float) → Refuses {L = LowpassOracle × List Float} (lowpass.assess_tests o n rows table x grad) (λ r. number_of r.0.verdict) (λ r. (r.0.oracle, r.1)) (o, grad) (lowpass.assess_feas_answer o n rows table x grad)
unfolding lowpass.assess_feas_answer
assess_feas o n rows table x grad = refuses _ _ _ _ _ _ (λ why place. refl) (λ why place. refl) (assessed o n rows table x grad)

factored : (A : ℕ → ℕ → Float) (m : ℕ) (storage : List Float) → number_of (ldlt.factor_of A m storage).0 ≡ 0
unfolding ldlt.factor_of
factored A m storage = refl

pub factor : (m : ℕ) (mat storage : List Float) → Refuses (ldlt.factor_tests m mat storage) (λ r. number_of r.0) (λ r. r.1) storage (ldlt.factor_answer m mat storage)
factor m mat storage = refuses _ _ _ _ _ _ (λ why place. refl) (λ why place. refl) (λ e. factored _ m storage)

pub witness : (m : ℕ) (p : Pos) (storage wit : List Float) → Refuses (ldlt.witness_tests m p storage wit) (λ r. number_of r.0) (λ r. r.1) wit (ldlt.witness_answer m p storage wit)
witness m p storage wit = refuses _ _ _ _ _ _ (λ why place. refl) (λ why place. refl) (λ e. refl)

pub sym_quad : (m : ℕ) (p : Pos) (wit mat : List Float) → Refuses (ldlt.sym_quad_tests m p wit mat) number_of nothing tt (ldlt.sym_quad_answer m p wit mat)
sym_quad m p wit mat = refuses _ _ _ _ _ _ (λ why place. refl) (λ why place. refl) (λ e. refl)

pub lmi_assess_feas : (m n : ℕ) (mat_b mat_f xc : List Float) (b : lmi.LmiBuffers) → Refuses (lmi.lmi_tests m n mat_b mat_f xc b) (λ r. number_of r.0) (λ r. r.1) b (lmi.lmi_answer m n mat_b mat_f xc b)
unfolding lmi.lmi_answer
lmi_assess_feas m n mat_b mat_f xc b = refuses _ _ _ _ _ _ (λ why place. refl) (λ why place. refl) (λ e. refl)

pub new_ell : (n : ℕ) (kappa : Float) → Refuses (calc.new_tests n) number_of nothing tt (ell.new_ell_answer n kappa)
unfolding ell.new_ell_answer
new_ell n kappa = refuses _ _ _ _ _ _ (λ why place. refl) (λ why place. refl) (λ e. refl)

ell_updated : (e : Ell) (s : CutStrategy) (grad : List Float) (beta : CutChoice) (b : ell.EllBuffers) → number_of (ell.ell_update_of e s grad beta b).0.answer ≡ 0
unfolding ell.ell_update_of
ell_updated e s grad beta b = ap number_of (update_says (ell.ell_work e s grad beta b)).0

pub ell_update : (e : Ell) (s : CutStrategy) (grad : List Float) (beta : CutChoice) (b : ell.EllBuffers) → Refuses {L = Ell × ell.EllBuffers} (ell.ell_tests e.ndim grad b) (λ r. number_of r.0.answer) (λ r. (r.0.ell, r.1)) (e, b) (ell.ell_update_answer e s grad beta b)
ell_update e s grad beta b = refuses _ _ _ _ _ _ (λ why place. refl) (λ why place. refl) (λ h. ell_updated e s grad beta b)

pub new_ell_stable : (n : ℕ) (kappa : Float) → Refuses (calc.new_tests n) number_of nothing tt (stable.new_ell_stable_answer n kappa)
unfolding stable.new_ell_stable_answer
new_ell_stable n kappa = refuses _ _ _ _ _ _ (λ why place. refl) (λ why place. refl) (λ e. refl)

stable_updated : (e : EllStable) (s : CutStrategy) (grad : List Float) (beta : CutChoice) (b : stable.StableBuffers) → number_of (stable.stable_update_of e s grad beta b).0.answer ≡ 0
unfolding stable.stable_update_of
stable_updated e s grad beta b = ap number_of (update_says (stable.stable_work e s grad beta b)).0

pub ell_stable_update : (e : EllStable) (s : CutStrategy) (grad : List Float) (beta : CutChoice) (b : stable.StableBuffers) → Refuses {L = EllStable × stable.StableBuffers} (stable.stable_tests e.ndim grad b) (λ r. number_of r.0.answer) (λ r. (r.0.ell, r.1)) (e, b) (stable.stable_update_answer e s grad beta b)
ell_stable_update e s grad beta b = refuses _ _ _ _ _ _ (λ why place. refl) (λ why place. refl) (λ h. stable_updated e s grad beta b)

-- `assess_optim`: 6 comes out of the work, where the point is feasible and no stop row compares
abbrev pub improves : LowpassOracle → Float → ℕ → ℕ → List Float → List Float → Bool
improves o gamma n rows table x = let q = asked o gamma n rows table x in not (is_feasible (judge q) && no_stop_value q)

abbrev pub assess_optim_tests : LowpassOracle → Float → ℕ → ℕ → List Float → List Float → List Float → Tests
assess_optim_tests o gamma n rows table x grad = lowpass.assess_tests o n rows table x grad ⨾ ask (improves o gamma n rows table x) NoStopValue

-- an answer that counts as one about the point is a refusal only by 6
six_or_none : (v : Result OptimVerdict Refusal) → (judgement (as_feas v) ≡ unanswered → ⊥) → number_of v ≡ pick (is_six v) 6 0
six_or_none (Ok (Improved beta)) h = sym (is_skip _ _ _ refl)
six_or_none (Ok (CutOptim c)) h = sym (is_skip _ _ _ refl)
six_or_none (Err why) h = go (eqb (refusal_number why) 6) refl h
  where
    go : (t : Bool) → eqb (refusal_number why) 6 ≡ t → (judgement (pick t (Ok None) (Err why)) ≡ unanswered → ⊥) → refusal_number why ≡ pick (eqb (refusal_number why) 6) 6 0
    go true e h = eqb-true (refusal_number why) 6 e ∙ sym (is_hit _ _ _ e)
    go false e h = absurd (h (ap judgement (is_skip false (Ok None) (Err why) refl)))

by_six : (t : Bool) → pick t 6 0 ≡ fault_number (ask (not t) NoStopValue)
unfolding pick
by_six true = refl
by_six false = refl

unimproved : (v : Result OptimVerdict Refusal) → is_refusal v ≡ true → is_improved v ≡ false
unimproved (Ok (Improved beta)) h = absurd (true≢false (sym h))
unimproved (Ok (CutOptim c)) h = refl
unimproved (Err why) h = refl

-- and an answer with a number is a refusal
numbered_refusal : (v : Result OptimVerdict Refusal) → (number_of v ≡ 0 → ⊥) → is_refusal v ≡ true
numbered_refusal (Ok v) h = absurd (h refl)
numbered_refusal (Err why) h = refl

some_number : (why : Refusal) → refusal_number why ≡ 0 → ⊥
some_number Dimension e = omega arith
some_number Length e = omega arith
some_number Band e = omega arith
some_number Cursor e = omega arith
some_number Position e = omega arith
some_number NoStopValue e = omega arith
some_number CutShort e = omega arith
some_number ForeignTag e = omega arith
some_number RepeatedTag e = omega arith
some_number MissingTag e = omega arith
some_number Room e = omega arith
some_number Outcome e = omega arith

-- every refusal has a number
pub numbered : (f : Tests) → is_err f ≡ true → fault_number f ≡ 0 → ⊥
numbered Sound h e = true≢false (sym h)
numbered (Err fault) h e = some_number fault.why e

module _ (o : LowpassOracle) (gamma : Float) (n rows : ℕ) (table x grad : List Float) where
  abbrev answer : AssessedOptim × List Float
  answer = lowpass.assess_optim_answer o gamma n rows table x grad

  optim_by_number : number_of answer.0.verdict ≡ fault_number (assess_optim_tests o gamma n rows table x grad)
  unfolding lowpass.assess_feas_answer
  optim_by_number = go (lowpass.assess_tests o n rows table x grad) refl
    where
      worked : lowpass.assess_tests o n rows table x grad ≡ Sound → number_of answer.0.verdict ≡ fault_number (ask (improves o gamma n rows table x) NoStopValue)
      worked e =
          let r = optim_rule o gamma n rows table x grad (accepted o n rows table x grad e) in
          let v = answer.0.verdict in
          six_or_none v (λ h. judge_answers (asked o gamma n rows table x) (sym r.verdict_is ∙ h))
          ∙ ap (λ (t : Bool). pick t 6 0) r.six_is
          ∙ by_six (is_feasible (judge (asked o gamma n rows table x)) && no_stop_value (asked o gamma n rows table x))

      go : (f : Tests) → lowpass.assess_tests o n rows table x grad ≡ f → number_of answer.0.verdict ≡ fault_number (f ⨾ ask (improves o gamma n rows table x) NoStopValue)
      go Sound e = worked e ∙ ap fault_number (sym (is_skip _ _ _ refl))
      go (Err fault) e =
          ap (λ (f : Tests). let a = unless f (λ w p. (lowpass.refused_of (lowpass.offered o gamma) w, grad)) (lowpass.assess_of (lowpass.offered o gamma) n table x grad) in
          number_of (lowpass.optim_of o gamma n table a.0.oracle a.0.verdict a.1).0.verdict) e
          ∙ ap fault_number (sym (is_hit _ _ _ refl))

  pub assess_optim : Refuses {L = LowpassOracle × Float × List Float} (assess_optim_tests o gamma n rows table x grad) (λ r. number_of r.0.verdict) (λ r. (r.0.oracle, r.0.gamma, r.1)) (o, gamma, grad) answer
  assess_optim = record {
    by_number = optim_by_number;
    writes_nothing = λ h.
        let t = numbered_refusal answer.0.verdict (λ e. numbered (assess_optim_tests o gamma n rows table x grad) h (sym optim_by_number ∙ e)) in
        let u = untouched o gamma n rows table x grad in
        rw ((optim_after o gamma n rows table x grad).as_it_came t, u.gamma_stays (unimproved answer.0.verdict t), u.grad_stays t);
  }
