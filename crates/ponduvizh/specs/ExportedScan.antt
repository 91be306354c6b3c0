-- What the exported scan answers. Definitions only.
use Rattle.numbers.specs.Refusal.{number_of}
use Rattle.oracles.specs.declared.scan.Violation.{Violation}
use Rattle.numbers.specs.declared.refusal.Refusal.{Refusal}
use Rattle.std.specs.Prelude.{ℕ, Bool, List, [], ◌∷◌, ℤ, Float, Err, None, Ok, Option, Result, Some}
use Rattle.numbers.specs.F64.{0ᶠ}
use Rattle.numbers.specs.Pick.{pick}
use Rattle.oracles.specs.declared.round_robin.RoundRobin.{RoundRobin}
use Rattle.oracles.specs.declared.scan.Scan.{Scan}

abbrev pub upper_of : Bool → Float → Option Float
upper_of bounded u = pick bounded (Some u) None

-- nothing 0, below a limit 1, above one 2
abbrev pub side_of : Option Violation → ℕ
side_of None = 0
side_of (Some broken) = pick broken.is_over 2 1

abbrev pub row_of : Option Violation → ℕ
row_of None = 0
row_of (Some broken) = broken.row

abbrev pub value_of : Option Violation → Float
value_of None = 0ᶠ
value_of (Some broken) = broken.value

-- the side and the row; the value and the largest one before it; the row of that
pub record ScanNumbers : Type 0 where
  pub found : List ℕ
  pub values : List Float
  pub kmax : ℤ

abbrev pub numbers_found : List ℕ → List Float → ℤ → ScanNumbers
numbers_found found values kmax = record { found = found; values = values; kmax = kmax }

unfoldable pub scan_numbers : Scan → ScanNumbers
scan_numbers s = numbers_found (side_of s.viol ∷ row_of s.viol ∷ []) (value_of s.viol ∷ s.fmax ∷ []) s.kmax

abbrev pub scan_numbers_or : Result Scan Refusal → ScanNumbers → ScanNumbers
scan_numbers_or (Ok s) old = scan_numbers s
scan_numbers_or (Err why) old = old

abbrev pub scan_exported : Result Scan Refusal → ScanNumbers → ℕ × ScanNumbers
scan_exported a l = (number_of a, scan_numbers_or a l)

-- and where the cursor stands
unfoldable pub scan_end : Result Scan Refusal × RoundRobin → ScanNumbers → (ℕ × ScanNumbers) × ℤ
scan_end a l = (scan_exported a.0 l, a.1.cur)
