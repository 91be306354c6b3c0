-- `ponduvizh::ellipsoids::beta_of` meets its contract. Assumes nothing.
use mathlib.Core.Path.{refl}
use Rattle.numbers.specs.laws.Pick.{hit, skip}
use Rattle.ponduvizh.proofs.ellipsoids.beta_of.Goals as goal

pub returns-then-parallel : goal.returns-then-parallel
returns-then-parallel c = hit _ _ _ _ c.if-parallel.true refl

pub returns : goal.returns
returns c = skip _ _ _ _ c.if-parallel.false refl
