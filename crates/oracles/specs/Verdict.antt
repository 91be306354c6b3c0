-- Demand 3 in document 01's words ("Verdict"): what a point breaks, said without a cursor, and what an assessment has to answer. Definitions only.
use Rattle.std.specs.Prelude.{ℕ, ◌≤◌, ◌<◌, ◌-◌, ◌≡◌, Bool, true, false, not, ◌&&◌, ◌||◌, List, ◌⊎◌, leb, ltb, eqb, get_or, ℤ, pos, nat_abs, Float, is_err, Ok, Err, Some, None, Result}
use Rattle.numbers.specs.declared.refusal.Refusal.{Refusal}
use Rattle.std.specs.Float.{nan}
use Rattle.std.specs.Float.Ieee.{lt, is_nan}
use Rattle.numbers.specs.F64.{0ᶠ}
use Rattle.numbers.specs.Pick.{pick, some}
use Rattle.numbers.specs.Refusal.{refusal_number}
use Rattle.oracles.specs.RoundRobin.{eq_z}
use Rattle.oracles.specs.Scan.{−∞, none}
use Rattle.oracles.specs.Table.{value_of}
use Rattle.oracles.specs.LowpassOracle.{assess_tests, offered, Verdict}
use Rattle.oracles.specs.declared.lowpass_oracle.LowpassOracle.{LowpassOracle}
use Rattle.oracles.specs.declared.lowpass_oracle.Group.TheVariants.{Pass, Stop, Middle, Sign}
use Rattle.oracles.specs.declared.lowpass_oracle.OptimVerdict.{OptimVerdict}
use Rattle.oracles.specs.declared.lowpass_oracle.OptimVerdict.TheVariants.{Improved, Cut as CutOptim}
use Rattle.oracles.specs.declared.lowpass_oracle.Assessed.{Assessed}
use Rattle.oracles.specs.declared.lowpass_oracle.AssessedOptim.{AssessedOptim}
use Rattle.oracles.specs.declared.lowpass_oracle.Group.{Group}

-- a verdict: feasible, or the first broken group; `refused` is none
pub data Judgement : Type 0 where
  feasible : Judgement
  pass : Judgement
  stop : Judgement
  middle : Judgement
  sign : Judgement
  refused : Judgement

-- bands and limits: all of an oracle that a verdict may depend on
pub record Limits : Type 0 where
  pub nwpass : ℤ
  pub nwstop : ℤ
  pub lp_sq : Float
  pub up_sq : Float
  pub sp_sq : Float

-- those of this oracle
abbrev pub limits : LowpassOracle → Limits
limits o = record { nwpass = o.nwpass; nwstop = o.nwstop; lp_sq = o.lp_sq; up_sq = o.up_sq; sp_sq = o.sp_sq }

-- what is asked about a point: n, the table with its rows, bands and limits, and the point, with no cursor in it
pub record Question : Type 0 where
  pub n : ℕ
  pub rows : ℕ
  pub limits : Limits
  pub table : List Float
  pub x : List Float

-- pass rows end here, and stop rows begin here; the middle rows lie between
abbrev pub pass_end : Question → ℕ
pass_end q = nat_abs q.limits.nwpass

abbrev pub stop_start : Question → ℕ
stop_start q = nat_abs q.limits.nwstop

-- a row's value is its `dot` with the point
abbrev pub value_in : Question → ℕ → Float
value_in q i = value_of q.n q.table q.x i

-- a pass row breaks its group above up_sq or below lp_sq; a test on NaN is false
abbrev pub pass_breaks : Question → ℕ → Bool
pass_breaks q i = lt q.limits.up_sq (value_in q i) || lt (value_in q i) q.limits.lp_sq

-- a stop row above sp_sq or below zero
abbrev pub stop_breaks : Question → ℕ → Bool
stop_breaks q i = lt q.limits.sp_sq (value_in q i) || lt (value_in q i) 0ᶠ

-- a middle row below zero
abbrev pub middle_breaks : Question → ℕ → Bool
middle_breaks q i = lt (value_in q i) 0ᶠ

-- the point's first number below zero
abbrev pub sign_breaks : Question → Bool
sign_breaks q = lt (get_or q.x 0 nan) 0ᶠ

-- a group is broken where one of its rows breaks it
abbrev pub pass_broken : Question → Bool
pass_broken q = some (pass_breaks q) 0 (pass_end q)

abbrev pub stop_broken : Question → Bool
stop_broken q = some (stop_breaks q) (stop_start q) (q.rows - stop_start q)

abbrev pub middle_broken : Question → Bool
middle_broken q = some (middle_breaks q) (pass_end q) (stop_start q - pass_end q)

-- the first of pass, stop, middle and sign that is broken
unfoldable pub first_broken : Bool → Bool → Bool → Bool → Judgement
first_broken true s m g = pass
first_broken false true m g = stop
first_broken false false true g = middle
first_broken false false false true = sign
first_broken false false false false = feasible

-- the verdict on a point
unfoldable pub judge : Question → Judgement
judge q = first_broken (pass_broken q) (stop_broken q) (middle_broken q) (sign_breaks q)

-- no row breaks and the sign holds: what feasible means, said of each row
pub record Unbroken (q : Question) : Type 0 where
  pub pass_rows : (i : ℕ) → i < pass_end q → pass_breaks q i ≡ false
  pub stop_rows : (i : ℕ) → stop_start q ≤ i → i < q.rows → stop_breaks q i ≡ false
  pub middle_rows : (i : ℕ) → pass_end q ≤ i → i < stop_start q → middle_breaks q i ≡ false
  pub sign_holds : sign_breaks q ≡ false

-- no stop value compares: the stop band is empty or all its values are NaN
unfoldable pub no_stop_value : Question → Bool
no_stop_value q = not (some (λ i. not (is_nan (value_in q i))) (stop_start q) (q.rows - stop_start q))

-- ---- what an assessment says

-- what is asked of an oracle with this sp_sq: nothing of its cursors, idx, fmax, kmax and more_alt
abbrev pub asked : LowpassOracle → Float → ℕ → ℕ → List Float → List Float → Question
asked o sp n rows table x = record { n = n; rows = rows; limits = limits (offered o sp); table = table; x = x }

-- nothing is refused by 1 to 4
abbrev pub is_accepted : LowpassOracle → ℕ → ℕ → List Float → List Float → List Float → Bool
is_accepted o n rows table x grad = not (is_err (assess_tests o n rows table x grad))

-- the verdict of a broken group, without its row
abbrev pub group_judgement : Group → Judgement
group_judgement (Pass row over) = pass
group_judgement (Stop row over) = stop
group_judgement (Middle row) = middle
group_judgement Sign = sign

-- the verdict of an answer, without row and betas
abbrev pub judgement : Verdict → Judgement
judgement (Ok None) = feasible
judgement (Ok (Some c)) = group_judgement c.group
judgement (Err why) = refused

-- whether v breaks a limit on the side that is reported: the upper one where `over` is true, else the lower one
abbrev pub side_breaks : Bool → Float → Float → Float → Bool
side_breaks over upper lower v = pick over (lt upper v) (lt v lower)

-- whether a cut's row is one of its group's and breaks it on the side that is reported
abbrev pub group_breaks : Question → Group → Bool
group_breaks q (Pass row over) = ltb row (pass_end q) && side_breaks over q.limits.up_sq q.limits.lp_sq (value_in q row)
group_breaks q (Stop row over) = leb (stop_start q) row && ltb row q.rows && side_breaks over q.limits.sp_sq 0ᶠ (value_in q row)
group_breaks q (Middle row) = leb (pass_end q) row && ltb row (stop_start q) && lt (value_in q row) 0ᶠ
group_breaks q Sign = sign_breaks q

abbrev pub cut_breaks : Question → Verdict → Bool
cut_breaks q (Ok None) = true
cut_breaks q (Ok (Some c)) = group_breaks q c.group
cut_breaks q (Err why) = true

-- whether a cut's row is where its group's scan has left the cursor
abbrev pub group_stands : LowpassOracle → Group → Bool
group_stands o (Pass row over) = eq_z o.rr1.cur (pos row)
group_stands o (Stop row over) = eq_z o.rr3.cur (pos row)
group_stands o (Middle row) = eq_z o.rr2.cur (pos row)
group_stands o Sign = true

abbrev pub cut_stands : LowpassOracle → Verdict → Bool
cut_stands o (Ok None) = true
cut_stands o (Ok (Some c)) = group_stands o c.group
cut_stands o (Err why) = true

-- fmax is the largest stop value that compares, and kmax a stop row that has it
pub record Has (q : Question) (fmax : Float) (kmax : ℤ) : Type 0 where
  pub row : ℕ
  pub row_is : kmax ≡ pos row
  pub low : stop_start q ≤ row
  pub high : row < q.rows
  pub value_is : value_in q row ≡ fmax
  pub compares : is_nan fmax ≡ false
  pub largest : (i : ℕ) → stop_start q ≤ i → i < q.rows → lt fmax (value_in q i) ≡ false

-- no stop value compares: minus infinity and −1
pub record HasNone (q : Question) (fmax : Float) (kmax : ℤ) : Type 0 where
  pub nothing : no_stop_value q ≡ true
  pub fmax_is : fmax ≡ −∞
  pub kmax_is : kmax ≡ none

-- one or the other: what fmax and kmax are after an accepted call on a feasible point
abbrev pub Peak : Question → Float → ℤ → Type 0
Peak q fmax kmax = Has q fmax kmax ⊎ HasNone q fmax kmax

-- what `assess_feas` answers to an accepted call
pub record FeasRule (q : Question) (r : Assessed) : Type 0 where
  pub verdict_is : judgement r.verdict ≡ judge q
  pub cut_is : cut_breaks q r.verdict ≡ true
  pub cut_at : cut_stands r.oracle r.verdict ≡ true
  pub peak : judge q ≡ feasible → Peak q r.oracle.fmax r.oracle.kmax

-- demand 3 of a call of `assess_feas`: an accepted one answers by the rule, for the sp_sq stored
abbrev pub ByFeasRule : LowpassOracle → ℕ → ℕ → List Float → List Float → List Float → Assessed → Type 0
ByFeasRule o n rows table x grad r = is_accepted o n rows table x grad ≡ true → FeasRule (asked o o.sp_sq n rows table x) r

-- an answer of `assess_optim` as one of `assess_feas`: refusal 6 counts as feasible
abbrev pub as_feas : Result OptimVerdict Refusal → Verdict
as_feas (Ok (Improved beta)) = Ok None
as_feas (Ok (CutOptim c)) = Ok (Some c)
as_feas (Err why) = pick (eqb (refusal_number why) 6) (Ok None) (Err why)

-- whether it is refusal 6
abbrev pub is_six : Result OptimVerdict Refusal → Bool
is_six (Ok (Improved beta)) = false
is_six (Ok (CutOptim c)) = false
is_six (Err why) = eqb (refusal_number why) 6

-- whether a judgement is feasible
abbrev pub is_feasible : Judgement → Bool
is_feasible feasible = true
is_feasible pass = false
is_feasible stop = false
is_feasible middle = false
is_feasible sign = false
is_feasible refused = false

-- what `assess_optim` answers to a call that 1 to 4 do not refuse: 6 exactly where the point is feasible and no stop value compares;
-- on any other feasible point the caller's number, gamma, becomes fmax
pub record OptimRule (q : Question) (r : AssessedOptim) : Type 0 where
  pub verdict_is : judgement (as_feas r.verdict) ≡ judge q
  pub cut_is : cut_breaks q (as_feas r.verdict) ≡ true
  pub cut_at : cut_stands r.oracle (as_feas r.verdict) ≡ true
  pub six_is : is_six r.verdict ≡ (is_feasible (judge q) && no_stop_value q)
  pub peak : is_six r.verdict ≡ false → judge q ≡ feasible → Has q r.oracle.fmax r.oracle.kmax
  pub offer : is_six r.verdict ≡ false → judge q ≡ feasible → r.gamma ≡ r.oracle.fmax

-- demand 3 of a call of `assess_optim`: an accepted one answers by the rule, for the sp_sq offered
abbrev pub ByOptimRule : LowpassOracle → Float → ℕ → ℕ → List Float → List Float → List Float → AssessedOptim → Type 0
ByOptimRule o gamma n rows table x grad r = is_accepted o n rows table x grad ≡ true → OptimRule (asked o gamma n rows table x) r
