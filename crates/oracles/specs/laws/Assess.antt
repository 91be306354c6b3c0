-- Laws of an assessment: what its tests say, and the ways it can go. Assumes nothing.
use Rattle.numbers.specs.Refusal.{Sound, Tests}
use Rattle.std.specs.Prelude.{◌≡◌, refl, Bool, true, false, not, ◌&&◌, List, ℕ, ◌*◌, ◌≤◌, eqb, length, get_or, set, replicate, ℤ, pos, negsuc, nat_abs, Float, is_err, Ok, Some, None, Option}
use Rattle.std.proofs.Common.{sym, ap, true≢false, mul-le-mul_right, le_refl, arith, leb-true, le-leb, eqb-true}
use Rattle.std.specs.Int.Signed.{le_z}
use Rattle.std.specs.Float.{nan}
use Rattle.std.specs.Float.Ieee.{lt, neg}
use Rattle.numbers.specs.F64.{0ᶠ}
use Rattle.numbers.specs.Arr.{is_dimension}
use Rattle.numbers.specs.laws.Refusal.{sound_is, held, at_next, accepts}
use Rattle.numbers.specs.declared.cut.CutChoice.TheVariants.{Single}
use Rattle.numbers.specs.laws.Pick.{and_parts, by_test}
use Rattle.numbers.specs.laws.Arr.{dimension_least, dimension_most}
use Rattle.oracles.specs.RoundRobin.{is_at, with_cur}
use Rattle.oracles.specs.laws.RoundRobin.{eq_z_true, legal_of, Legal}
use Rattle.oracles.specs.Scan.{−∞, none, scan_of, violated, band_beta, band_gradient, broken_at}
use Rattle.oracles.specs.Table.{table_fits}
use Rattle.oracles.specs.laws.Bands.{band_parts}
use Rattle.oracles.specs.laws.ScanRows.{Ready, all_hold}
use Rattle.oracles.specs.LowpassOracle.{−1ᶠ, has_band, bands_fit, cursors_fit, after_pass, after_stop, after_middle, assess_sign, assess_middle, assess_stop, assess_of, oracle_tests, assess_tests, assess_feas_answer, cut}
use Rattle.oracles.specs.Verdict.{is_accepted}
use Rattle.oracles.specs.declared.round_robin.RoundRobin.{RoundRobin}
use Rattle.oracles.specs.declared.scan.Violation.{Violation}
use Rattle.oracles.specs.declared.scan.Scan.{Scan}
use Rattle.oracles.specs.declared.lowpass_oracle.LowpassOracle.{LowpassOracle}
use Rattle.oracles.specs.declared.lowpass_oracle.Group.TheVariants.{Pass, Stop, Middle, Sign}
use Rattle.oracles.specs.declared.lowpass_oracle.Assessed.{Assessed}

-- ---- what the tests of refusals 3 and 4 say

-- a legal cursor of the band from .. past − 1
pub record Spans (c : RoundRobin) (from past : ℕ) : Type 0 where
  pub legal : Legal c
  pub from_is : legal.from ≡ from
  pub past_is : legal.past ≡ past

-- from its tests
spans : (c : RoundRobin) (from past : ℕ) → has_band c (pos from) (pos past) ≡ true → is_at c ≡ true → from ≤ past → past ≤ 1024 → Spans c from past
spans c from past h a le small =
    let p = and_parts _ _ h in
    let lo : c.lo ≡ pos from = eq_z_true c.lo (pos from) p.0 in
    let hi : c.hi ≡ pos past = eq_z_true c.hi (pos past) p.1 in
    let l = legal_of c (rw (lo, hi, le-leb 0 from (omega arith), le-leb from past le, le-leb past 1024 small)) a in
    let lo' = l.lo_is in
    let hi' = l.hi_is in
    record { legal = l; from_is = cc; past_is = cc }

-- the three cursors, each over its group's rows, which are rows of the table
pub record Fit (o : LowpassOracle) (rows : ℕ) : Type 0 where
  pub pass_rows : Spans o.rr1 0 (nat_abs o.nwpass)
  pub stop_rows : Spans o.rr3 (nat_abs o.nwstop) rows
  pub middle_rows : Spans o.rr2 (nat_abs o.nwpass) (nat_abs o.nwstop)
  pub pass_high : nat_abs o.nwpass ≤ rows
  pub middle_high : nat_abs o.nwstop ≤ rows

pub fit_of : (o : LowpassOracle) (rows : ℕ) → bands_fit o rows ≡ true → cursors_fit o ≡ true → Fit o rows
fit_of o rows b a =
    let p = band_parts o rows b in
    let a₃ = and_parts _ (is_at o.rr3) a in
    let a₂ = and_parts (is_at o.rr1) (is_at o.rr2) a₃.0 in
    let r = go o.nwpass o.nwstop p.most p.from p.between p.to p.pass_cursor p.middle_cursor p.stop_cursor a₂.0 a₂.1 a₃.1 in
    record { pass_rows = r.0; stop_rows = r.1; middle_rows = r.2; pass_high = r.3; middle_high = r.4 }
  where
    go : (p s : ℤ) → rows ≤ 1024 → le_z (pos 0) p ≡ true → le_z p s ≡ true → le_z s (pos rows) ≡ true
        → has_band o.rr1 (pos 0) p ≡ true → has_band o.rr2 p s ≡ true → has_band o.rr3 s (pos rows) ≡ true → is_at o.rr1 ≡ true → is_at o.rr2 ≡ true → is_at o.rr3 ≡ true
        → Spans o.rr1 0 (nat_abs p) × Spans o.rr3 (nat_abs s) rows × Spans o.rr2 (nat_abs p) (nat_abs s) × (nat_abs p ≤ rows) × (nat_abs s ≤ rows)
    go (negsuc p) s m h₁ h₂ h₃ b₁ b₂ b₃ a₁ a₂ a₃ = absurd (true≢false (sym h₁))
    go (pos p) (negsuc s) m h₁ h₂ h₃ b₁ b₂ b₃ a₁ a₂ a₃ = absurd (true≢false (sym h₂))
    go (pos p) (pos s) m h₁ h₂ h₃ b₁ b₂ b₃ a₁ a₂ a₃ =
        let u = leb-true p s h₂ in
        let w = leb-true s rows h₃ in
        (spans o.rr1 0 p b₁ a₁ (omega arith) (omega arith), spans o.rr3 s rows b₃ a₃ w m, spans o.rr2 p s b₂ a₂ u (omega arith), omega arith, w)

-- ---- what no fault by refusals 1 to 4 says, and what gives none

pub record OracleFits (o : LowpassOracle) (n rows : ℕ) (fit : Bool) : Type 0 where
  pub dimension : is_dimension n ≡ true
  pub long : fit ≡ true
  pub bands : bands_fit o rows ≡ true
  pub cursors : cursors_fit o ≡ true

module _ (o : LowpassOracle) (n rows : ℕ) (fit : Bool) where
  pub oracle_fits : oracle_tests o n rows fit ≡ Sound → OracleFits o n rows fit
  oracle_fits e =
      let h = all_hold _ _ _ _ e in
      record { dimension = h.0; long = h.1; bands = h.2; cursors = h.3 }

  pub fits_oracle : OracleFits o n rows fit → Sound ≡ oracle_tests o n rows fit
  fits_oracle f = at_next (at_next (held _ _ f.dimension) (held _ _ f.long)) (at_next (held _ _ f.bands) (held _ _ f.cursors))

-- ---- an accepted call

-- its tests, and the lengths that they leave
pub record Accepted (o : LowpassOracle) (n rows : ℕ) (table x grad : List Float) : Type 0 where
  pub dimension : is_dimension n ≡ true
  pub table_long : length table ≡ rows * n
  pub x_long : length x ≡ n
  pub grad_long : length grad ≡ n
  pub bands : bands_fit o rows ≡ true
  pub cursors : cursors_fit o ≡ true

pub accepted_of : (o : LowpassOracle) (n rows : ℕ) (table x grad : List Float) → is_accepted o n rows table x grad ≡ true → Accepted o n rows table x grad
accepted_of o n rows table x grad h =
    let f = oracle_fits o n rows (table_fits n rows table x && eqb (length grad) n) (sound_is h) in
    let p₁ = and_parts (table_fits n rows table x) (eqb (length grad) n) f.long in
    let p₀ = and_parts (eqb (length table) (rows * n)) (eqb (length x) n) p₁.0 in
    record {
      dimension = f.dimension;
      table_long = eqb-true (length table) (rows * n) p₀.0;
      x_long = eqb-true (length x) n p₀.1;
      grad_long = eqb-true (length grad) n p₁.1;
      bands = f.bands;
      cursors = f.cursors;
    }

-- from its tests
pub accepted_by : (o : LowpassOracle) (n rows : ℕ) (table x grad : List Float) → OracleFits o n rows (table_fits n rows table x && eqb (length grad) n) → is_accepted o n rows table x grad ≡ true
accepted_by o n rows table x grad f = ap (λ (g : Tests). not (is_err g)) (sym (fits_oracle o n rows (table_fits n rows table x && eqb (length grad) n) f))

-- it is assessed
pub accepted_is : (o : LowpassOracle) (n rows : ℕ) (table x grad : List Float) → is_accepted o n rows table x grad ≡ true → assess_feas_answer o n rows table x grad ≡ assess_of o n table x grad
unfolding assess_feas_answer
accepted_is o n rows table x grad h = sym (accepts _ _ (assess_tests o n rows table x grad) (sym (sound_is h)) refl)

-- nothing left to refuse: the sizes, and rows that a scan from each of the three cursors can read
pub record Assessable (o : LowpassOracle) (n : ℕ) (table x grad : List Float) : Type 0 where
  pub least : 2 ≤ n
  pub most : n ≤ 32
  pub x_long : length x ≡ n
  pub grad_long : length grad ≡ n
  pub pass_ready : Ready n table x o.rr1
  pub stop_ready : Ready n table x o.rr3
  pub middle_ready : Ready n table x o.rr2

pub assessable_of : (o : LowpassOracle) (n rows : ℕ) (table x grad : List Float) → Accepted o n rows table x grad → Assessable o n table x grad
assessable_of o n rows table x grad a =
    let F = fit_of o rows a.bands a.cursors in
    record {
      least = dimension_least n a.dimension;
      most = dimension_most n a.dimension;
      x_long = a.x_long;
      grad_long = a.grad_long;
      pass_ready = ready o.rr1 _ _ F.pass_rows F.pass_high;
      stop_ready = ready o.rr3 _ _ F.stop_rows (le_refl rows);
      middle_ready = ready o.rr2 _ _ F.middle_rows F.middle_high;
    }
  where
    ready : (c : RoundRobin) (from past : ℕ) → Spans c from past → past ≤ rows → Ready n table x c
    ready c from past S h =
        let l : S.legal.past ≤ rows = omega (arith, S.past_is) in
        record { legal = S.legal; high = omega (arith, mul-le-mul_right n l, a.table_long) }

-- ---- the ways of an assessment

-- what holds of both answers holds of the one that is taken
by_violation : {X : Type 0} (P : X → Type 0) (w : Option Violation) (kept : X) (broken : ℕ → Float → Bool → X)
    → (w ≡ None → P kept) → ((row : ℕ) (v : Float) (over : Bool) → w ≡ broken_at row v over → P (broken row v over)) → P (violated w kept broken)
by_violation P None kept broken f g = f refl
by_violation P (Some v) kept broken f g = g v.row v.value v.is_over refl

module _ (o : LowpassOracle) (n : ℕ) (table x : List Float) where
  -- the three scans
  abbrev pub pass_scan : Scan
  pass_scan = scan_of n table x o.rr1 o.lp_sq (Some o.up_sq)

  abbrev pub stop_scan : Scan
  stop_scan = scan_of n table x o.rr3 0ᶠ (Some o.sp_sq)

  abbrev pub middle_scan : Scan
  middle_scan = scan_of n table x o.rr2 0ᶠ None

  -- the oracle after each scan
  abbrev pub pass_left : LowpassOracle
  pass_left = after_pass o pass_scan.last (with_cur o.rr1 pass_scan.last)

  abbrev pub stop_left : Float → ℤ → LowpassOracle
  stop_left fmax kmax = after_stop pass_left stop_scan.last (with_cur o.rr3 stop_scan.last) fmax kmax

  abbrev pub middle_left : Bool → LowpassOracle
  middle_left more_alt = after_middle (stop_left stop_scan.fmax stop_scan.kmax) middle_scan.last (with_cur o.rr2 middle_scan.last) more_alt

  -- what holds of each holds of the assessment
  pub assess_cases : (grad : List Float) (P : Assessed × List Float → Type 0)
      → ((row : ℕ) (v : Float) (over : Bool) → pass_scan.viol ≡ broken_at row v over
      → P (record { oracle = pass_left; verdict = cut (Pass row over) (band_beta v over o.lp_sq (Some o.up_sq)) }, band_gradient n table row over))
      → (pass_scan.viol ≡ None → (row : ℕ) (v : Float) (over : Bool) → stop_scan.viol ≡ broken_at row v over
      → P (record { oracle = stop_left −∞ none; verdict = cut (Stop row over) (band_beta v over 0ᶠ (Some o.sp_sq)) }, band_gradient n table row over))
      → (pass_scan.viol ≡ None → stop_scan.viol ≡ None → (row : ℕ) (v : Float) (over : Bool) → middle_scan.viol ≡ broken_at row v over
      → P (record { oracle = middle_left true; verdict = cut (Middle row) (band_beta v over 0ᶠ None) }, band_gradient n table row over))
      → (pass_scan.viol ≡ None → stop_scan.viol ≡ None → middle_scan.viol ≡ None → lt (get_or x 0 nan) 0ᶠ ≡ true
      → P (record { oracle = middle_left false; verdict = cut Sign (Single (neg (get_or x 0 nan))) }, set (replicate (length grad) 0ᶠ) 0 −1ᶠ))
      → (pass_scan.viol ≡ None → stop_scan.viol ≡ None → middle_scan.viol ≡ None → lt (get_or x 0 nan) 0ᶠ ≡ false
      → P (record { oracle = middle_left false; verdict = Ok None }, grad))
      → P (assess_of o n table x grad)
  unfolding assess_of assess_stop assess_middle assess_sign
  assess_cases grad P f₁ f₂ f₃ f₄ f₅ =
      by_violation P pass_scan.viol _ _
      (λ e₁. by_violation P stop_scan.viol _ _
      (λ e₂. by_violation P middle_scan.viol _ _ (λ e₃. by_test P (lt (get_or x 0 nan) 0ᶠ) _ _ (f₄ e₁ e₂ e₃) (f₅ e₁ e₂ e₃)) (f₃ e₁ e₂))
      (f₂ e₁))
      f₁
