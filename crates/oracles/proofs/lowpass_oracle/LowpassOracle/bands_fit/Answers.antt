-- `oracles::lowpass_oracle::LowpassOracle::bands_fit` meets its contract. Assumes nothing.
use mathlib.Core.Path.{◌≡◌}
use mathlib.Core.Bool.{Bool, true, ◌&&◌}
use Prim.Native.Nat.{ℕ}
use borrow.Author.Tests.{leb-true}
use lib.Dec.{leb}
use lib.IntN.{pos}
use lib.Signed.{le_z}
use mir.Syntax.{w32}
use mir.Val.{SFits}
use mir.Facts.{to_z-of_z}
use Rattle.oracles.specs.Table.{is_rows}
use Rattle.oracles.specs.LowpassOracle.{has_band, bands_fit}
use Rattle.oracles.specs.declared.lowpass_oracle.LowpassOracle.{LowpassOracle}
use Rattle.oracles.proofs.Signed.{read, pos_fits}
use Rattle.numbers.specs.laws.Pick.{and_parts, says_yes}
use Rattle.std.proofs.Math.Path.{ap}
use Rattle.std.proofs.Math.Bool.{not}
use Rattle.oracles.proofs.lowpass_oracle.LowpassOracle.bands_fit.Goals as goal
use borrow.Author.Rules.{rules}

rows_fit : (rows : ℕ) → is_rows rows ≡ true → SFits w32 (pos rows)
rows_fit rows h = pos_fits rows (leb-true rows 1024 (and_parts (leb 1 rows) (leb rows 1024) h).1)

-- the tests as they are made, of numbers as they are read
tests : (o : LowpassOracle) (rows : ℕ) → is_rows rows ≡ true → SFits w32 o.nwpass → SFits w32 o.nwstop → {a b c : Bool}
    → a ≡ has_band o.rr1 (pos 0) (read o.nwpass) → b ≡ has_band o.rr2 (read o.nwpass) (read o.nwstop) → c ≡ has_band o.rr3 (read o.nwstop) (read (pos rows))
    → (le_z (pos 0) (read o.nwpass) && le_z (read o.nwpass) (read o.nwstop) && le_z (read o.nwstop) (read (pos rows)) && a && b && c) ≡ bands_fit o rows
tests o rows h fp fs ea eb ec = rw (ea, eb, ec, to_z-of_z fp, to_z-of_z fs, to_z-of_z (rows_fit rows h), h)

pub returns : goal.returns
returns c =
    let a = c.args in
    tests a.self a.rows (says_yes _ _ c.is_rows.ensures (ap not c.if-not-is_rows.false)) (search rules) (search rules)
    c.has_band.ensures c.has_band-2.ensures c.has_band-3.ensures
