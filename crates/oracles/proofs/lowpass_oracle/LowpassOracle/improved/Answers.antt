-- `oracles::lowpass_oracle::LowpassOracle::improved` meets its contract. Assumes nothing.
use mathlib.Core.Path.{◌≡◌, refl}
use Rattle.std.specs.Prelude.{Err, Ok}
use mathlib.Core.Bool.{true, false}
use mathlib.Core.List.{List}
use Prim.Native.Nat.{ℕ}
use lib.IntN.{pos, nat_abs}
use lib.Signed.{lt_z}
use lib.Ieee.{Float}
use mir.Syntax.{w32}
use mir.Val.{SFits}
use mir.Facts.{to_z-of_z}
use Rattle.numbers.specs.Pick.{pick}
use Rattle.numbers.specs.F64.{0ᶠ}
use Rattle.numbers.specs.declared.cut.CutChoice.TheVariants.{Parallel}
use Rattle.numbers.specs.declared.refusal.Refusal.TheVariants.{NoStopValue}
use Rattle.numbers.specs.laws.Pick.{hit, skip}
use Rattle.oracles.specs.Scan.{band_gradient}
use Rattle.oracles.specs.LowpassOracle.{improved_of}
use Rattle.oracles.specs.declared.lowpass_oracle.LowpassOracle.{LowpassOracle}
use Rattle.oracles.specs.declared.lowpass_oracle.AssessedOptim.{AssessedOptim}
use Rattle.oracles.specs.declared.lowpass_oracle.OptimVerdict.TheVariants.{Improved}
use Rattle.oracles.proofs.Signed.{read}
use Rattle.oracles.proofs.lowpass_oracle.LowpassOracle.improved.Goals as goal
use borrow.Author.Rules.{rules}

module _ (o : LowpassOracle) (gamma : Float) (o' : LowpassOracle) (n : ℕ) (table grad : List Float) (f : SFits w32 o'.kmax) where
  refused : lt_z (read o'.kmax) (pos 0) ≡ true → ◌≡◌ {A = AssessedOptim × List Float} (record { oracle = o; gamma = gamma; verdict = Err NoStopValue }, grad) (improved_of o gamma o' n table grad)
  unfolding improved_of
  refused h = hit _ _ _ _ (rw (to_z-of_z f) at h) refl

  improved : lt_z (read o'.kmax) (pos 0) ≡ false → (grad' : List Float) → grad' ≡ band_gradient n table (nat_abs (read o'.kmax)) true
      → ◌≡◌ {A = AssessedOptim × List Float} (record { oracle = o'; gamma = o'.fmax; verdict = Ok (Improved (Parallel 0ᶠ o'.fmax)) }, grad') (improved_of o gamma o' n table grad)
  unfolding improved_of band_gradient pick
  improved h grad' e = skip _ _ _ _ (rw (to_z-of_z f) at h) (rw (e, to_z-of_z f))

pub returns-then-after-lt0 : goal.returns-then-after-lt0
returns-then-after-lt0 c =
    let a = c.args in
    refused a.self a.gamma a.after a.rows.n a.rows.table.now a.grad.now (search rules) c.if-after-lt0.true

pub gradient_into-requires : goal.gradient_into-requires
gradient_into-requires c =
    let f : SFits w32 c.args.after.kmax = search rules in
    (c.requires.0, c.requires.1, rw (to_z-of_z f) (c.requires.2 (rw (to_z-of_z f) at c.if-after-lt0.false)), c.requires.3)

pub returns : goal.returns
returns c =
    let a = c.args in
    improved a.self a.gamma a.after a.rows.n a.rows.table.now a.grad.now (search rules) c.if-after-lt0.false _ c.gradient_into.ensures
