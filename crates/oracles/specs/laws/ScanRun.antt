-- Rows that a scan looks at one after the other, with no turn of the cursor between them. Definitions only.
use Rattle.std.specs.Prelude.{ℕ, zero, suc, ◌≤◌, ◌-◌, ◌*◌, Bool, true, false, List, length, ℤ, pos, Float, None, Option, unwrap_or, is_some}
use Rattle.std.proofs.Math.IntN.{pred_ℤ}
use Rattle.std.specs.Float.{inf}
use Rattle.std.specs.Float.Ieee.{lt}
use Rattle.numbers.specs.Pick.{pick}
use Rattle.oracles.specs.Table.{value_of}
use Rattle.oracles.specs.declared.round_robin.RoundRobin.{RoundRobin}
use Rattle.oracles.specs.declared.scan.Scan.{Scan}
use Rattle.oracles.specs.laws.RoundRobin.{Legal}
use Rattle.oracles.specs.Scan.{broken_at}

-- the upper limit as a number: infinity where there is none
abbrev pub limit_of : Option Float → Float
limit_of upper = unwrap_or upper (inf false)

-- row i with the value v, after the largest value so far and its row, by two tests: whether v lies above the limit, and below the lower one
abbrev pub tested_by : Bool → Bool → ℕ → Float → Float → ℤ → Scan
tested_by over under i v fmax kmax =
    pick over (record { viol = broken_at i v true; fmax = fmax; kmax = kmax; last = pos i })
    (pick under (record { viol = broken_at i v false; fmax = fmax; kmax = kmax; last = pos i })
    (record { viol = None; fmax = pick (lt fmax v) v fmax; kmax = pick (lt fmax v) (pos i) kmax; last = pos i }))

abbrev pub judged_of : Float → Float → ℕ → Float → Float → ℤ → Scan
judged_of lower limit i v fmax kmax = tested_by (lt limit v) (lt v lower) i v fmax kmax

-- the `count` rows from row i on, up to the first that breaks a limit
unfoldable pub scan_run : ℕ → List Float → List Float → Float → Float → ℕ → ℕ → Float → ℤ → Scan
scan_run n table x lower limit zero i fmax kmax = record { viol = None; fmax = fmax; kmax = kmax; last = pred_ℤ (pos i) }
scan_run n table x lower limit (suc count) i fmax kmax =
    let s = judged_of lower limit i (value_of n table x i) fmax kmax in
    pick (is_some s.viol) s (scan_run n table x lower limit count (suc i) s.fmax s.kmax)

-- the part of a band that is left to scan: `left` rows from the cursor c on, no more than the band has, all in the table
pub record RowsLeft (n : ℕ) (table : List Float) (c : RoundRobin) (left : ℕ) : Type 0 where
  pub legal : Legal c
  pub room : left ≤ legal.past - legal.from
  pub high : legal.past * n ≤ length table
