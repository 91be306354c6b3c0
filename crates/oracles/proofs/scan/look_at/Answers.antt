-- `oracles::scan::look_at` meets its contract. Assumes nothing.
use mathlib.Core.Path.{◌≡◌, refl, sym, ap, ◌∙◌}
use mathlib.Core.Logic.{◌⊎◌, inl, inr}
use Prim.Native.Nat.{ℕ}
use mir.Facts.{to_z-of_z}
use Rattle.oracles.specs.laws.ScanRun.{scan_run}
use Rattle.oracles.proofs.scan.Run.{as_judged, run_one}
use Rattle.oracles.proofs.scan.look_at.Goals as goal

-- not four rows, so one
one : (many : ℕ) → (many ≡ 1) ⊎ (many ≡ 4) → (many ≡ 4 → ⊥) → many ≡ 1
one many (inl e) h = e
one many (inr e) h = absurd (h e)

pub returns : goal.returns
returns c =
    let a = c.args in
    run_one a.rows.n a.rows.table.now a.rows.x.now a.limits.lower a.limits.limit a.row a.fmax a.kmax
    (as_judged a.rows.n a.rows.table.now a.rows.x.now a.limits.lower a.limits.limit a.fmax refl c.row_value-value.ensures (to_z-of_z c.ranges.kmax) c.test_row.ensures)
    ∙ ap (λ (m : ℕ). scan_run a.rows.n a.rows.table.now a.rows.x.now a.limits.lower a.limits.limit m a.row a.fmax a.kmax) (sym (one a.many c.requires.0 c.if-many-eq4.false))
