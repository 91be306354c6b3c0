-- What a calculator answers: a status with the three numbers that document 01 gives with it. Definitions only.
use Rattle.std.specs.Prelude.{ℕ, Float}
use Rattle.numbers.specs.F64.{0ᶠ, 1ᶠ}
use Rattle.numbers.specs.declared.cut.CutStatus.{CutStatus}
use Rattle.numbers.specs.declared.cut.CutStatus.TheVariants.{Success, NoSoln, NoEffect}
use Rattle.numbers.specs.declared.cut.Params.{Params}
use Rattle.numbers.specs.declared.cut.CutAnswer.{CutAnswer}
use Rattle.numbers.specs.declared.cut.CutChoice.{CutChoice}
use Rattle.numbers.specs.declared.cut.CutChoice.TheVariants.{Single, Parallel}

-- Success carries the numbers worked out, NoSoln (0, 0, 0), NoEffect (0, 0, 1).
abbrev pub success : Params → CutAnswer
success p = record { status = Success; params = p }

abbrev pub no_soln : CutAnswer
no_soln = record { status = NoSoln; params = record { rho = 0ᶠ; sigma = 0ᶠ; delta = 0ᶠ } }

abbrev pub no_effect : CutAnswer
no_effect = record { status = NoEffect; params = record { rho = 0ᶠ; sigma = 0ᶠ; delta = 1ᶠ } }

-- a choice taken apart: what one bound gives, or what two give
abbrev pub chosen {ℓ} : {X : Type ℓ} → CutChoice → (Float → X) → (Float → Float → X) → X
chosen (Single beta0) one two = one beta0
chosen (Parallel beta0 beta1) one two = two beta0 beta1

-- a status as the word that stands for it in a list of answers (docs/LISTS.md)
abbrev pub status_number : CutStatus → ℕ
status_number Success = 0
status_number NoSoln = 1
status_number NoEffect = 2
