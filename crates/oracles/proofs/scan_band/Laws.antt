-- What a scan answers by its tests, and where it leaves the cursor. Assumes nothing.
use Rattle.std.specs.Prelude.{◌≡◌, refl, Bool, ℕ, List, Float, Option, Result, Ok, Err, ⊤}
use Rattle.std.proofs.Common.{sym, ap, ◌∙◌, arith}
use mir.Syntax.{w32}
use mir.Val.{SFits}
use mir.Facts.{to_z-of_z}
use Rattle.numbers.specs.Arr.{is_dimension}
use Rattle.numbers.specs.laws.Refusal.{by_tests, accepts}
use Rattle.numbers.specs.declared.refusal.Refusal.{Refusal}
use Rattle.oracles.specs.RoundRobin.{is_at, with_cur}
use Rattle.oracles.specs.Table.{table_fits}
use Rattle.oracles.specs.Scan.{band_fits, scan_of, first_fault, scan_band_tests, scan_band_answer}
use Rattle.oracles.specs.laws.ScanRows.{fault_by, ready_of, Ready}
use Rattle.oracles.specs.declared.round_robin.RoundRobin.{RoundRobin}
use Rattle.oracles.specs.declared.scan.Scan.{Scan}
use Rattle.oracles.proofs.Signed.{read}
use Rattle.oracles.proofs.Refusals.{first_of, err_by, ok_by}

module _ (n rows : ℕ) (table x : List Float) (c : RoundRobin) where
  -- the refusal is that of the tests; lo and hi are tested as they are read
  pub found : SFits w32 c.lo → SFits w32 c.hi → {r : Result ⊤ Refusal} {d l b k : Bool} → r ≡ first_of (first_fault d l b k)
      → d ≡ is_dimension n → l ≡ table_fits n rows table x → b ≡ band_fits rows (read c.lo) (read c.hi) → k ≡ is_at c → r ≡ first_of (scan_band_tests n rows table x c)
  found fl fh e hd hl hb hk = e ∙ ap first_of (fault_by refl hd hl (hb ∙ (λ i. band_fits rows (to_z-of_z fl i) (to_z-of_z fh i))) hk)

  pub ready_by : Ok tt ≡ first_of (scan_band_tests n rows table x c) → Ready n table x c
  ready_by h = ready_of n rows table x c (sym (ok_by _ h))

  module _ (lower : Float) (upper : Option Float) where
    pub scanned : Ok tt ≡ first_of (scan_band_tests n rows table x c) → {s : Scan} → s ≡ scan_of n table x c lower upper → Ok s ≡ (scan_band_answer n rows table x c lower upper).0
    unfolding scan_band_answer
    scanned h {s} es = ap Ok es ∙ ap (λ (w : Result Scan Refusal × RoundRobin). w.0) (accepts _ _ _ (ok_by _ h) refl)

    pub refused : {why : Refusal} → Err why ≡ first_of (scan_band_tests n rows table x c) → Err why ≡ (scan_band_answer n rows table x c lower upper).0
    unfolding scan_band_answer
    refused h = ap (λ (w : Result Scan Refusal × RoundRobin). w.0) (err_by (λ why. (Err why, c)) _ _ h)

    -- the cursor by the answer
    pub moves : (s : Scan) → Ok s ≡ (scan_band_answer n rows table x c lower upper).0 → (Ok s, with_cur c s.last) ≡ scan_band_answer n rows table x c lower upper
    unfolding scan_band_answer
    moves s =
        by_tests (λ (w : Result Scan Refusal × RoundRobin). Ok s ≡ w.0 → (Ok s, with_cur c s.last) ≡ w) (scan_band_tests n rows table x c) _ _
        (λ why place e q. absurd (let z : ◌≡◌ {A = ℕ} 0 1 = cc in omega arith))
        (λ e q. let p : s ≡ scan_of n table x c lower upper = cc in ap (λ (z : Scan). (Ok z, with_cur c z.last)) p)

    pub stays : (why : Refusal) → Err why ≡ (scan_band_answer n rows table x c lower upper).0 → (Err why, c) ≡ scan_band_answer n rows table x c lower upper
    unfolding scan_band_answer
    stays why =
        by_tests (λ (w : Result Scan Refusal × RoundRobin). Err why ≡ w.0 → (Err why, c) ≡ w) (scan_band_tests n rows table x c) _ _
        (λ why' place e q. let p : why ≡ why' = cc in ap (λ (z : Refusal). (Err z, c)) p)
        (λ e q. absurd (let z : ◌≡◌ {A = ℕ} 0 1 = cc in omega arith))
