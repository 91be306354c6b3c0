-- The lowpass oracle (lowpass_oracle.rs): the assessment of a point, in the Rust's order. Definitions only.
use Rattle.std.specs.Prelude.{ℕ, Bool, true, false, ◌&&◌, List, eqb, length, get_or, set, replicate, ℤ, pos, nat_abs, Float, Ok, Err, Some, None, Result, Option}
use Rattle.numbers.specs.declared.cut.CutChoice.{CutChoice}
use Rattle.std.specs.Int.Signed.{le_z, lt_z}
use Rattle.std.specs.Float.{nan, binary64}
use Rattle.std.specs.Float.Ieee.{lt, neg, of_bits}
use Rattle.numbers.specs.F64.{0ᶠ}
use Rattle.numbers.specs.Pick.{pick}
use Rattle.numbers.specs.Refusal.{unless, Tests}
use Rattle.numbers.specs.Arr.{is_dimension, row_of}
use Rattle.numbers.specs.declared.refusal.Refusal.{Refusal}
use Rattle.numbers.specs.declared.refusal.Refusal.TheVariants.{NoStopValue}
use Rattle.numbers.specs.declared.cut.CutChoice.TheVariants.{Single, Parallel}
use Rattle.oracles.specs.RoundRobin.{is_at, eq_z, with_cur, new_range_answer}
use Rattle.oracles.specs.Scan.{−∞, none, scan_of, first_fault, violated, band_beta, band_gradient}
use Rattle.oracles.specs.Table.{is_rows, table_fits}
use Rattle.oracles.specs.declared.round_robin.RoundRobin.{RoundRobin}
use Rattle.oracles.specs.declared.lowpass_oracle.Group.{Group}
use Rattle.oracles.specs.declared.lowpass_oracle.Group.TheVariants.{Pass, Stop, Middle, Sign}
use Rattle.oracles.specs.declared.lowpass_oracle.OptimVerdict.TheVariants.{Improved, Cut as CutOptim}
use Rattle.oracles.specs.declared.lowpass_oracle.LowpassOracle.{LowpassOracle}
use Rattle.oracles.specs.declared.lowpass_oracle.Assessed.{Assessed}
use Rattle.oracles.specs.declared.lowpass_oracle.AssessedOptim.{AssessedOptim}
use Rattle.oracles.specs.declared.lowpass_oracle.Cut.{Cut}

-- −1
abbrev pub −1ᶠ : Float
−1ᶠ = of_bits binary64 0xbff0_0000_0000_0000

-- the groups in the order in which they are tried, and whether a cut's value lies above its limit; middle rows and x[0] have only a lower one
abbrev pub group_number : Group → ℕ
group_number (Pass row over) = 0
group_number (Stop row over) = 1
group_number (Middle row) = 2
group_number Sign = 3

abbrev pub group_side : Group → Bool
group_side (Pass row over) = over
group_side (Stop row over) = over
group_side (Middle row) = false
group_side Sign = false

-- ---- the start

-- where a fresh cursor stands, before its band's first row; an oracle over what is no band is refused, whatever stands here
abbrev pub fresh_cur : Result RoundRobin Refusal → ℤ
fresh_cur (Ok rr) = rr.cur
fresh_cur (Err why) = none

-- `start`, an oracle that has assessed nothing yet: each idx before its band, no largest value, the cursors anywhere
unfoldable pub start_oracle : ℤ → ℤ → ℤ → ℤ → ℤ → ℤ → Float → Float → Float → LowpassOracle
start_oracle nwpass nwstop mdim cur1 cur2 cur3 lp_sq up_sq sp_sq = record {
  more_alt = true;
  idx1 = fresh_cur (new_range_answer (pos 0) nwpass);
  nwpass = nwpass;
  nwstop = nwstop;
  lp_sq = lp_sq;
  up_sq = up_sq;
  sp_sq = sp_sq;
  idx2 = fresh_cur (new_range_answer nwpass nwstop);
  idx3 = fresh_cur (new_range_answer nwstop mdim);
  fmax = −∞;
  kmax = none;
  rr1 = record { cur = cur1; lo = pos 0; hi = nwpass };
  rr2 = record { cur = cur2; lo = nwpass; hi = nwstop };
  rr3 = record { cur = cur3; lo = nwstop; hi = mdim };
}

-- ---- the assessment of a point, with `grad` as it is left

-- what `assess_feas` says: nothing is broken, the cut of the first broken group, or why the call is refused
abbrev pub Verdict : Type 0
Verdict = Result (Option Cut) Refusal

abbrev pub cut : Group → CutChoice → Verdict
cut group beta = Ok (Some (record { group = group; beta = beta }))

-- the oracle with another state; its bands, lp_sq and up_sq stay
abbrev pub with_state : LowpassOracle → Bool → Float → ℤ → ℤ → ℤ → Float → ℤ → RoundRobin → RoundRobin → RoundRobin → LowpassOracle
with_state o more_alt sp_sq idx1 idx2 idx3 fmax kmax rr1 rr2 rr3 = record {
  more_alt = more_alt;
  idx1 = idx1;
  nwpass = o.nwpass;
  nwstop = o.nwstop;
  lp_sq = o.lp_sq;
  up_sq = o.up_sq;
  sp_sq = sp_sq;
  idx2 = idx2;
  idx3 = idx3;
  fmax = fmax;
  kmax = kmax;
  rr1 = rr1;
  rr2 = rr2;
  rr3 = rr3;
}

-- after the pass scan: more_alt is set, and idx1 takes cur
abbrev pub after_pass : LowpassOracle → ℤ → RoundRobin → LowpassOracle
after_pass o last rr = with_state o true o.sp_sq last o.idx2 o.idx3 o.fmax o.kmax rr o.rr2 o.rr3

-- after the stop scan
abbrev pub after_stop : LowpassOracle → ℤ → RoundRobin → Float → ℤ → LowpassOracle
after_stop o last rr fmax kmax = with_state o o.more_alt o.sp_sq o.idx1 o.idx2 last fmax kmax o.rr1 o.rr2 rr

-- after the middle scan
abbrev pub after_middle : LowpassOracle → ℤ → RoundRobin → Bool → LowpassOracle
after_middle o last rr more_alt = with_state o more_alt o.sp_sq o.idx1 last o.idx3 o.fmax o.kmax o.rr1 rr o.rr3

-- the last test: x[0] below zero, with the gradient −1, 0, .. 0
unfoldable pub assess_sign : LowpassOracle → List Float → List Float → Assessed × List Float
assess_sign o x grad =
    pick (lt (get_or x 0 nan) 0ᶠ)
    (record { oracle = o; verdict = cut Sign (Single (neg (get_or x 0 nan))) }, set (replicate (length grad) 0ᶠ) 0 −1ᶠ)
    (record { oracle = o; verdict = Ok None }, grad)

-- the middle rows; more_alt turns false once they have passed
unfoldable pub assess_middle : LowpassOracle → ℕ → List Float → List Float → List Float → Assessed × List Float
assess_middle o n table x grad =
    let s = scan_of n table x o.rr2 0ᶠ None in
    let rr = with_cur o.rr2 s.last in
    violated s.viol (assess_sign (after_middle o s.last rr false) x grad)
    (λ row v over. (record { oracle = after_middle o s.last rr o.more_alt; verdict = cut (Middle row) (band_beta v over 0ᶠ None) }, band_gradient n table row over))

-- the stop rows; on a violation fmax and kmax are those of no row
unfoldable pub assess_stop : LowpassOracle → ℕ → List Float → List Float → List Float → Assessed × List Float
assess_stop o n table x grad =
    let s = scan_of n table x o.rr3 0ᶠ (Some o.sp_sq) in
    let rr = with_cur o.rr3 s.last in
    violated s.viol (assess_middle (after_stop o s.last rr s.fmax s.kmax) n table x grad)
    (λ row v over. (record { oracle = after_stop o s.last rr −∞ none; verdict = cut (Stop row over) (band_beta v over 0ᶠ (Some o.sp_sq)) }, band_gradient n table row over))

-- all of it: pass, stop, middle, sign
unfoldable pub assess_of : LowpassOracle → ℕ → List Float → List Float → List Float → Assessed × List Float
assess_of o n table x grad =
    let s = scan_of n table x o.rr1 o.lp_sq (Some o.up_sq) in
    let o' = after_pass o s.last (with_cur o.rr1 s.last) in
    violated s.viol (assess_stop o' n table x grad)
    (λ row v over. (record { oracle = o'; verdict = cut (Pass row over) (band_beta v over o.lp_sq (Some o.up_sq)) }, band_gradient n table row over))

-- ---- the public calls

-- a cursor of the band lo .. hi − 1
abbrev pub has_band : RoundRobin → ℤ → ℤ → Bool
has_band c lo hi = eq_z c.lo lo && eq_z c.hi hi

-- refusal 3: the row count, the bands, and the cursors' lo and hi, which are their bands'
abbrev pub bands_fit : LowpassOracle → ℕ → Bool
bands_fit o rows =
    is_rows rows && le_z (pos 0) o.nwpass && le_z o.nwpass o.nwstop && le_z o.nwstop (pos rows)
    && has_band o.rr1 (pos 0) o.nwpass && has_band o.rr2 o.nwpass o.nwstop && has_band o.rr3 o.nwstop (pos rows)

-- refusal 4
abbrev pub cursors_fit : LowpassOracle → Bool
cursors_fit o = is_at o.rr1 && is_at o.rr2 && is_at o.rr3

-- a refusal gives the oracle as it came
abbrev pub refused_of : LowpassOracle → Refusal → Assessed
refused_of o why = record { oracle = o; verdict = Err why }

-- refusals 1 to 4 of a call with an oracle, whose lengths are right where `fit` is true
abbrev pub oracle_tests : LowpassOracle → ℕ → ℕ → Bool → Tests
oracle_tests o n rows fit = first_fault (is_dimension n) fit (bands_fit o rows) (cursors_fit o)

-- `assess_feas`
abbrev pub assess_tests : LowpassOracle → ℕ → ℕ → List Float → List Float → List Float → Tests
assess_tests o n rows table x grad = oracle_tests o n rows (table_fits n rows table x && eqb (length grad) n)

unfoldable pub assess_feas_answer : LowpassOracle → ℕ → ℕ → List Float → List Float → List Float → Assessed × List Float
assess_feas_answer o n rows table x grad = unless (assess_tests o n rows table x grad) (λ why place. (refused_of o why, grad)) (assess_of o n table x grad)

-- the oracle with the offered sp_sq
abbrev pub offered : LowpassOracle → Float → LowpassOracle
offered o gamma = with_state o o.more_alt gamma o.idx1 o.idx2 o.idx3 o.fmax o.kmax o.rr1 o.rr2 o.rr3

-- a feasible point's answer: the kmax row cuts with (0, fmax) and the caller's number is fmax; refusal 6, and the oracle as it came, where no stop row compares
unfoldable pub improved_of : LowpassOracle → Float → LowpassOracle → ℕ → List Float → List Float → AssessedOptim × List Float
improved_of o gamma o' n table grad =
    pick (lt_z o'.kmax (pos 0)) (record { oracle = o; gamma = gamma; verdict = Err NoStopValue }, grad)
    (record { oracle = o'; gamma = o'.fmax; verdict = Ok (Improved (Parallel 0ᶠ o'.fmax)) }, row_of n table (nat_abs o'.kmax))

-- what an assessment of the oracle with the offered number becomes
abbrev pub optim_of : LowpassOracle → Float → ℕ → List Float → LowpassOracle → Verdict → List Float → AssessedOptim × List Float
optim_of o gamma n table o' (Ok None) grad = improved_of o gamma o' n table grad
optim_of o gamma n table o' (Ok (Some c)) grad = (record { oracle = o'; gamma = gamma; verdict = Ok (CutOptim c) }, grad)
optim_of o gamma n table o' (Err why) grad = (record { oracle = o; gamma = gamma; verdict = Err why }, grad)

-- `assess_optim`: the offered sp_sq is stored first
abbrev pub assess_optim_answer : LowpassOracle → Float → ℕ → ℕ → List Float → List Float → List Float → AssessedOptim × List Float
assess_optim_answer o gamma n rows table x grad =
    let a = assess_feas_answer (offered o gamma) n rows table x grad in
    optim_of o gamma n table a.0.oracle a.0.verdict a.1
