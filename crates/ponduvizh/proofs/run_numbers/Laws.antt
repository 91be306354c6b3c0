-- What a run says in numbers, part by part. Assumes nothing.
use Rattle.drivers.specs.declared.cutting_plane_optim.OptimStop.{OptimStop}
use Rattle.drivers.specs.CuttingPlaneOptim.{halted, optim_refused}
use Rattle.std.specs.Prelude.{Ok, Result}
use mathlib.Core.Path.{◌≡◌, refl}
use mathlib.Core.List.{List}
use Prim.Native.Nat.{ℕ}
use lib.IntN.{ℤ}
use lib.Ieee.{Float}
use Rattle.numbers.specs.declared.refusal.Refusal.{Refusal}
use Rattle.oracles.specs.declared.ell.Ell.{Ell}
use Rattle.oracles.specs.declared.lowpass_oracle.LowpassOracle.{LowpassOracle}
use Rattle.drivers.specs.declared.answer.Answer.{Answer}
use Rattle.ponduvizh.specs.ExportedRuns.{RunNumbers, run_numbers, answer_of, marks_of, values_of, numbers_after, numbers_by}

pub state_law : (a : Answer) (o : LowpassOracle) (e : Ell) (answer : List ℕ) (marks : List ℤ) (values : List Float)
    → answer ≡ answer_of a o
    → marks ≡ marks_of o
    → values ≡ values_of o e
    → run_numbers answer marks values ≡ numbers_after a o e
unfolding numbers_after
state_law a o e answer marks values h₁ h₂ h₃ = rw (h₁, h₂, h₃) refl

-- a refusal leaves the numbers as they were
module _ (o : LowpassOracle) (e : Ell) (old : RunNumbers) (a : (Result Answer OptimStop)) where
  pub run_ended : (d : Answer) (now : RunNumbers) → a ≡ Ok d → now ≡ numbers_after d o e → now ≡ numbers_by a o e old
  run_ended d now m h = rw (m, h) refl

  pub run_halted : (d : Answer) (now : RunNumbers) → a ≡ halted d → now ≡ numbers_after d o e → now ≡ numbers_by a o e old
  run_halted d now m h = rw (m, h) refl

  pub run_refused : (why : Refusal) → a ≡ optim_refused why → old ≡ numbers_by a o e old
  run_refused why m = rw m refl
