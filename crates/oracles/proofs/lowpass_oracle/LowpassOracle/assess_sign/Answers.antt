-- `oracles::lowpass_oracle::LowpassOracle::assess_sign` meets its contract. Assumes nothing.
use mathlib.Core.Path.{◌≡◌, refl}
use Rattle.std.specs.Prelude.{Ok, None}
use mathlib.Core.Bool.{true, false}
use mathlib.Core.List.{List}
use lib.ListN.{length, get_or, set, replicate}
use lib.Ieee
use lib.Ieee.{Float, nan, lt, neg}
use Rattle.numbers.specs.F64.{0ᶠ}
use Rattle.numbers.specs.declared.cut.CutChoice.TheVariants.{Single}
use Rattle.numbers.specs.laws.Pick.{hit, skip}
use Rattle.oracles.specs.LowpassOracle.{−1ᶠ, assess_sign, cut}
use Rattle.oracles.specs.declared.lowpass_oracle.LowpassOracle.{LowpassOracle}
use Rattle.oracles.specs.declared.lowpass_oracle.Assessed.{Assessed}
use Rattle.oracles.specs.declared.lowpass_oracle.Group.TheVariants.{Sign}
use Rattle.oracles.proofs.lowpass_oracle.LowpassOracle.assess_sign.Goals as goal

module _ (o : LowpassOracle) (x grad : List Float) where
  broken : lt (get_or x 0 nan) 0ᶠ ≡ true → (zeros : List Float) → zeros ≡ replicate (length grad) 0ᶠ
      → ◌≡◌ {A = Assessed × List Float} (record { oracle = o; verdict = cut Sign (Single (neg (get_or x 0 nan))) }, set zeros 0 −1ᶠ) (assess_sign o x grad)
  unfolding assess_sign
  broken h zeros e = hit _ _ _ _ h (rw e)

  kept : lt (get_or x 0 nan) 0ᶠ ≡ false → ◌≡◌ {A = Assessed × List Float} (record { oracle = o; verdict = Ok None }, grad) (assess_sign o x grad)
  unfolding assess_sign
  kept h = skip _ _ _ _ h refl

pub returns-then-x0 : goal.returns-then-x0
unfolding Ieee.neg Ieee.of_bits
returns-then-x0 c =
    let a = c.args in
    broken a.self a.x.now a.grad.now c.if-x0.true _ (c.fill.ensures.after (λ y e. e))

pub returns : goal.returns
returns c = let a = c.args in kept a.self a.x.now a.grad.now c.if-x0.false
