-- A scan of a band of rows (`scan_band` of lowpass_oracle.rs), in the Rust's order. Definitions only.
use Rattle.std.specs.Prelude.{ℕ, zero, suc, Bool, true, false, ◌&&◌, List, map, ℤ, pos, negsuc, nat_abs, ◌-ℤ◌, Float, Ok, Err, Some, None, Result, Option}
use Rattle.numbers.specs.declared.refusal.Refusal.{Refusal}
use Rattle.std.specs.Int.Signed.{le_z}
use Rattle.std.specs.Float.{inf}
use Rattle.std.specs.Float.Ieee.{lt, neg}
use Rattle.numbers.specs.F64.{◌⊖◌}
use Rattle.numbers.specs.Pick.{pick}
use Rattle.numbers.specs.Refusal.{◌⨾◌, unless, ask, Tests}
use Rattle.numbers.specs.Arr.{is_dimension, row_of}
use Rattle.numbers.specs.declared.refusal.Refusal.TheVariants.{Dimension, Length, Band, Cursor}
use Rattle.numbers.specs.declared.cut.CutChoice.{CutChoice}
use Rattle.numbers.specs.declared.cut.CutChoice.TheVariants.{Single, Parallel}
use Rattle.oracles.specs.Table.{is_rows, table_fits, value_of}
use Rattle.oracles.specs.RoundRobin.{is_band, is_at, with_cur, advanced}
use Rattle.oracles.specs.declared.round_robin.RoundRobin.{RoundRobin}
use Rattle.oracles.specs.declared.scan.Violation.{Violation}
use Rattle.oracles.specs.declared.scan.Scan.{Scan}

-- minus infinity, and the row number that stands for none
abbrev pub −∞ : Float
−∞ = inf true

abbrev pub none : ℤ
none = negsuc 0

-- ---- a scan

-- a row that breaks a limit
abbrev pub broken_at : ℕ → Float → Bool → Option Violation
broken_at row value over = Some (record { row = row; value = value; is_over = over })

-- whether v lies above an upper limit, if there is one
abbrev pub is_over : Option Float → Float → Bool
is_over None v = false
is_over (Some u) v = lt u v

-- the rows that are left, from a cursor, with the largest value so far and its row
unfoldable pub scan_from : ℕ → List Float → List Float → Float → Option Float → ℕ → RoundRobin → Float → ℤ → Scan
scan_from n table x lower upper zero c fmax kmax = record { viol = None; fmax = fmax; kmax = kmax; last = c.cur }
scan_from n table x lower upper (suc left) c fmax kmax =
    let d = advanced c in
    let i = nat_abs d.cur in
    let v = value_of n table x i in
    pick (is_over upper v) (record { viol = broken_at i v true; fmax = fmax; kmax = kmax; last = d.cur })
    (pick (lt v lower) (record { viol = broken_at i v false; fmax = fmax; kmax = kmax; last = d.cur })
    (scan_from n table x lower upper left d (pick (lt fmax v) v fmax) (pick (lt fmax v) d.cur kmax)))

-- one advance for each row of the cursor's band at most
unfoldable pub scan_of : ℕ → List Float → List Float → RoundRobin → Float → Option Float → Scan
scan_of n table x c lower upper = scan_from n table x lower upper (nat_abs (c.hi -ℤ c.lo)) c −∞ none

-- lo and hi are a band of a table of so many rows
abbrev pub band_fits : ℕ → ℤ → ℤ → Bool
band_fits rows lo hi = is_rows rows && (is_band lo hi && le_z hi (pos rows))

-- refusals 1 to 4 in their order, by what was found of n, the lengths, the bands and the cursors
abbrev pub first_fault : Bool → Bool → Bool → Bool → Tests
first_fault dimension lengths bands cursors = (ask dimension Dimension ⨾ ask lengths Length) ⨾ ask bands Band ⨾ ask cursors Cursor

-- `scan_band`: refusals 1, 2, 3 (row count, band, band within the rows) and 4; the answer, and the cursor as it is left
abbrev pub scan_band_tests : ℕ → ℕ → List Float → List Float → RoundRobin → Tests
scan_band_tests n rows table x c = first_fault (is_dimension n) (table_fits n rows table x) (band_fits rows c.lo c.hi) (is_at c)

unfoldable pub scan_band_answer : ℕ → ℕ → List Float → List Float → RoundRobin → Float → Option Float → Result Scan Refusal × RoundRobin
scan_band_answer n rows table x c lower upper =
    let s = scan_of n table x c lower upper in
    unless (scan_band_tests n rows table x c) (λ why place. (Err why, c)) (Ok s, with_cur c s.last)

-- ---- what a violation becomes

-- a violation taken apart
abbrev pub violated {ℓ} : {X : Type ℓ} → Option Violation → X → (ℕ → Float → Bool → X) → X
violated None kept broken = kept
violated (Some v) kept broken = broken v.row v.value v.is_over

-- the betas of `band_cut`
abbrev pub band_beta : Float → Bool → Float → Option Float → CutChoice
band_beta v over lower None = Single (lower ⊖ v)
band_beta v over lower (Some u) = pick over (Parallel (v ⊖ u) (v ⊖ lower)) (Parallel (lower ⊖ v) (u ⊖ v))

-- its gradient: the row above an upper limit, the negated row below a lower one
unfoldable pub band_gradient : ℕ → List Float → ℕ → Bool → List Float
band_gradient n table row over = pick over (row_of n table row) (map neg (row_of n table row))
