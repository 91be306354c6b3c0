-- A scan told by its parts is the scan told. Assumes nothing.
use Rattle.numbers.specs.Refusal.{number_of}
use Rattle.std.specs.Prelude.{Err, Ok, Result}
use mathlib.Core.Path.{◌≡◌, refl}
use mathlib.Core.List.{[], ◌∷◌}
use Prim.Native.Nat.{ℕ}
use lib.IntN.{ℤ}
use lib.Ieee.{Float}
use Rattle.numbers.specs.declared.refusal.Refusal.{Refusal}
use Rattle.oracles.specs.declared.round_robin.RoundRobin.{RoundRobin}
use Rattle.oracles.specs.declared.scan.Scan.{Scan}
use Rattle.ponduvizh.specs.ExportedScan.{ScanNumbers, side_of, row_of, value_of, scan_numbers, scan_numbers_or, scan_end}

pub scan_law : (s : Scan) (side row : ℕ) (value : Float) (kmax : ℤ) → side ≡ side_of s.viol → row ≡ row_of s.viol → value ≡ value_of s.viol → kmax ≡ s.kmax
    → ◌≡◌ {A = ScanNumbers} (record { found = side ∷ row ∷ []; values = value ∷ s.fmax ∷ []; kmax = kmax }) (scan_numbers s)
unfolding scan_numbers
scan_law s side row value kmax a b d e = rw (a, b, d, e) refl

pub was_scanned : (a : (Result Scan Refusal)) (s : Scan) (l l' : ScanNumbers) → a ≡ Ok s → l' ≡ scan_numbers s → l' ≡ scan_numbers_or a l
was_scanned a s l l' m h = rw (m, h) refl

pub was_refused : (a : (Result Scan Refusal)) (why : Refusal) (l : ScanNumbers) → a ≡ Err why → l ≡ scan_numbers_or a l
was_refused a why l m = rw m refl

pub ended_law : (a : (Result Scan Refusal)) (rr : RoundRobin) (r : Result Scan Refusal × RoundRobin) (code : ℕ) (cur : ℤ) (l l' : ScanNumbers) → (a, rr) ≡ r → code ≡ number_of a → l' ≡ scan_numbers_or a l → cur ≡ rr.cur
    → ◌≡◌ {A = (ℕ × ScanNumbers) × ℤ} ((code, l'), cur) (scan_end r l)
unfolding scan_end
ended_law a rr r code cur l l' d h t e = rw (h, t, e, ← d) refl

-- a cursor between bounds that were handed on
pub cursor_handed : (s : RoundRobin) (cur a b a' b' : ℤ) → s ≡ record { cur = cur; lo = a; hi = b } → a ≡ a' → b ≡ b' → s ≡ record { cur = cur; lo = a'; hi = b' }
cursor_handed s cur a b a' b' d h k = rw (← h, ← k) d
