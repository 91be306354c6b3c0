-- The steps of an assessment: what a scan's answer leads to. Assumes nothing.
use mathlib.Core.Path.{◌≡◌, sym, ap, ◌∙◌, subst}
use Rattle.std.specs.Prelude.{Some, None, Option}
use mathlib.Core.Bool.{Bool, false}
use mathlib.Core.List.{List}
use Prim.Native.Nat.{ℕ, ◌≤◌, ◌+◌, ◌*◌}
use native.Mathlib.Nat.{suc-mul, mul-le-mul_right}
use native.Mathlib.Omega.{arith}
use lib.IntN.{ℤ}
use lib.ListN.{length}
use lib.Ieee.{Float}
use mir.Syntax.{w32}
use mir.Val.{SFits}
use mir.Facts.{to_z-of_z}
use Rattle.numbers.specs.F64.{0ᶠ}
use Rattle.numbers.specs.declared.cut.CutChoice.{CutChoice}
use Rattle.oracles.specs.RoundRobin.{with_cur}
use Rattle.oracles.specs.Scan.{−∞, none, scan_of, violated, band_beta, band_gradient, broken_at}
use Rattle.oracles.specs.LowpassOracle.{after_pass, after_stop, after_middle, assess_sign, assess_middle, assess_stop, assess_of, cut}
use Rattle.oracles.specs.laws.ScanRows.{Ready}
use Rattle.oracles.specs.laws.Scan.{broken_in, left_ready}
use Rattle.oracles.specs.laws.Assess.{Assessable}
use Rattle.oracles.specs.declared.round_robin.RoundRobin.{RoundRobin}
use Rattle.oracles.specs.declared.lowpass_oracle.LowpassOracle.{LowpassOracle}
use Rattle.oracles.specs.declared.lowpass_oracle.Group.TheVariants.{Pass, Stop, Middle}
use Rattle.oracles.specs.declared.lowpass_oracle.Assessed.{Assessed}
use Rattle.oracles.specs.declared.scan.Violation.{Violation}
use Rattle.oracles.specs.declared.scan.Scan.{Scan}
use Rattle.oracles.proofs.Signed.{read}

-- the two ways on
pub goes_on : {X : Type 0} (v : Option Violation) (kept : X) (broken : ℕ → Float → Bool → X) (r : X) → v ≡ None → r ≡ kept → r ≡ violated v kept broken
goes_on v kept broken r e q = rw e q

pub breaks : {X : Type 0} (v : Option Violation) (kept : X) (broken : ℕ → Float → Bool → X) (r : X) (row : ℕ) (value : Float) (over : Bool)
    → v ≡ broken_at row value over → r ≡ broken row value over → r ≡ violated v kept broken
breaks v kept broken r row value over e q = rw e q

-- ---- what is known where nothing is left to refuse

module _ {o : LowpassOracle} {n : ℕ} {table x grad : List Float} (A : Assessable o n table x grad) {c : RoundRobin} (R : Ready n table x c) (lower : Float) (upper : Option Float)
    {s : Scan} (es : s ≡ scan_of n table x c lower upper) where
  -- the row of a violation can be read
  pub cut_fits : (row : ℕ) (v : Float) (over : Bool) → s.viol ≡ broken_at row v over → (2 ≤ n) × (n ≤ 32) × (row * n + n ≤ length table) × (length grad ≡ n)
  cut_fits row v over e =
      let i = broken_in n table x c lower upper R.legal row v over (ap (λ (z : Scan). z.viol) (sym es) ∙ e) in
      (A.least, A.most, omega (arith, suc-mul row n, mul-le-mul_right n i.1, R.high), A.grad_long)

  -- so can those of the next scan, from the cursor that is left
  ready_again : {rr : RoundRobin} → rr ≡ with_cur c s.last → Ready n table x rr
  ready_again er = subst (Ready n table x) (sym (er ∙ ap (λ (z : Scan). with_cur c z.last) es)) (left_ready n table x c lower upper R)

module _ {o : LowpassOracle} {n : ℕ} {table x grad : List Float} (A : Assessable o n table x grad) {s : Scan} {rr : RoundRobin} {o' : LowpassOracle} where
  pub pass_assessable : s ≡ scan_of n table x o.rr1 o.lp_sq (Some o.up_sq) → rr ≡ with_cur o.rr1 s.last → o' ≡ after_pass o (read s.last) rr → Assessable o' n table x grad
  pass_assessable es er eo =
      subst (λ (z : LowpassOracle). Assessable z n table x grad) (sym eo)
      (record {
        least = A.least;
        most = A.most;
        x_long = A.x_long;
        grad_long = A.grad_long;
        pass_ready = ready_again A A.pass_ready o.lp_sq (Some o.up_sq) es er;
        stop_ready = A.stop_ready;
        middle_ready = A.middle_ready;
      })

  pub stop_assessable : s ≡ scan_of n table x o.rr3 0ᶠ (Some o.sp_sq) → rr ≡ with_cur o.rr3 s.last → o' ≡ after_stop o (read s.last) rr s.fmax (read s.kmax) → Assessable o' n table x grad
  stop_assessable es er eo =
      subst (λ (z : LowpassOracle). Assessable z n table x grad) (sym eo)
      (record {
        least = A.least;
        most = A.most;
        x_long = A.x_long;
        grad_long = A.grad_long;
        pass_ready = A.pass_ready;
        stop_ready = ready_again A A.stop_ready 0ᶠ (Some o.sp_sq) es er;
        middle_ready = A.middle_ready;
      })

-- ---- a scan that was made, from the cursor c, and the cursor that it left

module _ (n : ℕ) (table x : List Float) (c : RoundRobin) (lower : Float) (upper : Option Float) (s : Scan) (rr : RoundRobin)
    (es : s ≡ scan_of n table x c lower upper) (er : rr ≡ with_cur c s.last) (fl : SFits w32 s.last) where
  -- an oracle made of the scan's last row, as it is read, and of the cursor
  placed : (f : ℤ → RoundRobin → LowpassOracle) → f (read s.last) rr ≡ f (scan_of n table x c lower upper).last (with_cur c (scan_of n table x c lower upper).last)
  placed f = (λ i. f (to_z-of_z fl i) (er i)) ∙ ap (λ (z : Scan). f z.last (with_cur c z.last)) es

  found : {v : (Option Violation)} → s.viol ≡ v → (scan_of n table x c lower upper).viol ≡ v
  found e = ap (λ (z : Scan). z.viol) (sym es) ∙ e

module _ (o : LowpassOracle) (n : ℕ) (table x grad : List Float) (s : Scan) (rr : RoundRobin) (fl : SFits w32 s.last) (o' : LowpassOracle) where
  abbrev Answer : Type 0
  Answer = Assessed × List Float

  -- a cut of a row
  abbrev Cuts : ℕ → Float → Bool → Float → Option Float → CutChoice → List Float → Type 0
  Cuts row v over lower upper beta grad' = (beta ≡ band_beta v over lower upper) × (grad' ≡ band_gradient n table row over)

  module _ (es : s ≡ scan_of n table x o.rr2 0ᶠ None) (er : rr ≡ with_cur o.rr2 s.last) where
    pub middle_passes : s.viol ≡ None → o' ≡ after_middle o (read s.last) rr false → (p : Answer) → p ≡ assess_sign o' x grad → p ≡ assess_middle o n table x grad
    unfolding assess_middle
    middle_passes e eo p q =
        goes_on _ _ _ p (found n table x o.rr2 0ᶠ None s rr es er fl e)
        (q ∙ ap (λ (z : LowpassOracle). assess_sign z x grad) (eo ∙ placed n table x o.rr2 0ᶠ None s rr es er fl (λ last r. after_middle o last r false)))

    pub middle_breaks : (row : ℕ) (v : Float) (over : Bool) → s.viol ≡ broken_at row v over → o' ≡ after_middle o (read s.last) rr o.more_alt
        → (beta : CutChoice) (grad' : List Float) → Cuts row v over 0ᶠ None beta grad'
        → ◌≡◌ {A = Answer} (record { oracle = o'; verdict = cut (Middle row) beta }, grad') (assess_middle o n table x grad)
    unfolding assess_middle
    middle_breaks row v over e eo beta grad' k =
        breaks _ _ _ _ row v over (found n table x o.rr2 0ᶠ None s rr es er fl e)
        (rw (eo ∙ placed n table x o.rr2 0ᶠ None s rr es er fl (λ last r. after_middle o last r o.more_alt), k.0, k.1))

  module _ (es : s ≡ scan_of n table x o.rr3 0ᶠ (Some o.sp_sq)) (er : rr ≡ with_cur o.rr3 s.last) where
    pub stop_passes : SFits w32 s.kmax → s.viol ≡ None → o' ≡ after_stop o (read s.last) rr s.fmax (read s.kmax) → (p : Answer) → p ≡ assess_middle o' n table x grad
        → p ≡ assess_stop o n table x grad
    unfolding assess_stop
    stop_passes fk e eo p q =
        let u = ap (λ (z : Scan). after_stop o z.last (with_cur o.rr3 z.last) z.fmax z.kmax) es in
        let w : after_stop o s.last (with_cur o.rr3 s.last) s.fmax s.kmax ≡ after_stop o (read s.last) rr s.fmax (read s.kmax) =
        rw (er, to_z-of_z fl, to_z-of_z fk)
        in
        goes_on _ _ _ p (found n table x o.rr3 0ᶠ (Some o.sp_sq) s rr es er fl e)
        (q ∙ ap (λ (z : LowpassOracle). assess_middle z n table x grad) (eo ∙ sym w ∙ u))

    pub stop_breaks : (row : ℕ) (v : Float) (over : Bool) → s.viol ≡ broken_at row v over → o' ≡ after_stop o (read s.last) rr −∞ none
        → (beta : CutChoice) (grad' : List Float) → Cuts row v over 0ᶠ (Some o.sp_sq) beta grad'
        → ◌≡◌ {A = Answer} (record { oracle = o'; verdict = cut (Stop row over) beta }, grad') (assess_stop o n table x grad)
    unfolding assess_stop
    stop_breaks row v over e eo beta grad' k =
        breaks _ _ _ _ row v over (found n table x o.rr3 0ᶠ (Some o.sp_sq) s rr es er fl e)
        (rw (eo ∙ placed n table x o.rr3 0ᶠ (Some o.sp_sq) s rr es er fl (λ last r. after_stop o last r −∞ none), k.0, k.1))

  module _ (es : s ≡ scan_of n table x o.rr1 o.lp_sq (Some o.up_sq)) (er : rr ≡ with_cur o.rr1 s.last) (eo : o' ≡ after_pass o (read s.last) rr) where
    pub pass_passes : s.viol ≡ None → (p : Answer) → p ≡ assess_stop o' n table x grad → p ≡ assess_of o n table x grad
    unfolding assess_of
    pass_passes e p q =
        goes_on _ _ _ p (found n table x o.rr1 o.lp_sq (Some o.up_sq) s rr es er fl e)
        (q ∙ ap (λ (z : LowpassOracle). assess_stop z n table x grad) (eo ∙ placed n table x o.rr1 o.lp_sq (Some o.up_sq) s rr es er fl (λ last r. after_pass o last r)))

    pub pass_breaks : (row : ℕ) (v : Float) (over : Bool) → s.viol ≡ broken_at row v over
        → (beta : CutChoice) (grad' : List Float) → Cuts row v over o.lp_sq (Some o.up_sq) beta grad'
        → ◌≡◌ {A = Answer} (record { oracle = o'; verdict = cut (Pass row over) beta }, grad') (assess_of o n table x grad)
    unfolding assess_of
    pass_breaks row v over e beta grad' k =
        breaks _ _ _ _ row v over (found n table x o.rr1 o.lp_sq (Some o.up_sq) s rr es er fl e)
        (rw (eo ∙ placed n table x o.rr1 o.lp_sq (Some o.up_sq) s rr es er fl (λ last r. after_pass o last r), k.0, k.1))
