-- Laws of refusal 3: what its test says of the rows, the bands and the cursors. Assumes nothing.
use Rattle.std.specs.Prelude.{◌≡◌, true, ℕ, ◌≤◌, leb, ℤ, pos, negsuc}
use Rattle.std.proofs.Common.{sym, true≢false, arith, leb-true, le-leb}
use Rattle.std.specs.Int.Signed.{le_z}
use Rattle.numbers.specs.laws.Pick.{and_parts}
use Rattle.oracles.specs.RoundRobin.{is_band}
use Rattle.oracles.specs.Table.{is_rows}
use Rattle.oracles.specs.LowpassOracle.{has_band, bands_fit}
use Rattle.oracles.specs.declared.lowpass_oracle.LowpassOracle.{LowpassOracle}

-- its parts: a count of rows that a table can have, the ends of the bands in their order, and each cursor's own band
pub record BandParts (o : LowpassOracle) (rows : ℕ) : Type 0 where
  pub rows_held : is_rows rows ≡ true
  pub least : 1 ≤ rows
  pub most : rows ≤ 1024
  pub from : le_z (pos 0) o.nwpass ≡ true
  pub between : le_z o.nwpass o.nwstop ≡ true
  pub to : le_z o.nwstop (pos rows) ≡ true
  pub pass_cursor : has_band o.rr1 (pos 0) o.nwpass ≡ true
  pub middle_cursor : has_band o.rr2 o.nwpass o.nwstop ≡ true
  pub stop_cursor : has_band o.rr3 o.nwstop (pos rows) ≡ true

pub band_parts : (o : LowpassOracle) (rows : ℕ) → bands_fit o rows ≡ true → BandParts o rows
band_parts o rows h =
    let b₃ = and_parts _ (has_band o.rr3 o.nwstop (pos rows)) h in
    let b₂ = and_parts _ (has_band o.rr2 o.nwpass o.nwstop) b₃.0 in
    let b₁ = and_parts _ (has_band o.rr1 (pos 0) o.nwpass) b₂.0 in
    let h₃ = and_parts _ (le_z o.nwstop (pos rows)) b₁.0 in
    let h₂ = and_parts _ (le_z o.nwpass o.nwstop) h₃.0 in
    let h₁ = and_parts (is_rows rows) (le_z (pos 0) o.nwpass) h₂.0 in
    let held = and_parts (leb 1 rows) (leb rows 1024) h₁.0 in
    record {
      rows_held = h₁.0;
      least = leb-true 1 rows held.0;
      most = leb-true rows 1024 held.1;
      from = h₁.1;
      between = h₂.1;
      to = h₃.1;
      pass_cursor = b₁.1;
      middle_cursor = b₂.1;
      stop_cursor = b₃.1;
    }

-- bands that pass it are three bands
pub three_bands : (p s : ℤ) (rows : ℕ) → rows ≤ 1024 → le_z (pos 0) p ≡ true → le_z p s ≡ true → le_z s (pos rows) ≡ true
    → (is_band (pos 0) p ≡ true) × (is_band p s ≡ true) × (is_band s (pos rows) ≡ true)
three_bands (negsuc p) s rows m h₁ h₂ h₃ = absurd (true≢false (sym h₁))
three_bands (pos p) (negsuc s) rows m h₁ h₂ h₃ = absurd (true≢false (sym h₂))
three_bands (pos p) (pos s) rows m h₁ h₂ h₃ =
    let u = leb-true p s h₂ in
    let w = leb-true s rows h₃ in
    let zero_p : leb 0 p ≡ true = le-leb 0 p (omega arith) in
    let zero_s : leb 0 s ≡ true = le-leb 0 s (omega arith) in
    let small_p : leb p 1024 ≡ true = le-leb p 1024 (omega arith) in
    let small_s : leb s 1024 ≡ true = le-leb s 1024 (omega arith) in
    let small : leb rows 1024 ≡ true = le-leb rows 1024 m in
    (rw (zero_p, small_p), rw (zero_p, h₂, small_s), rw (zero_s, h₃, small))
