-- `ponduvizh::ellipsoids::strategy_of` meets its contract. Assumes nothing.
use mathlib.Core.Path.{refl}
use borrow.Author.Tests.{eq-eqb, ne_eqb}
use Rattle.numbers.specs.laws.Pick.{hit, skip}
use Rattle.ponduvizh.proofs.ellipsoids.strategy_of.Goals as goal

pub returns-then-k-eq1 : goal.returns-then-k-eq1
returns-then-k-eq1 c = skip _ _ _ _ (ne_eqb _ _ c.if-k-eq0.false) (hit _ _ _ _ (eq-eqb _ _ c.if-k-eq1.true) refl)

pub returns : goal.returns
returns c = skip _ _ _ _ (ne_eqb _ _ c.if-k-eq0.false) (skip _ _ _ _ (ne_eqb _ _ c.if-k-eq1.false) refl)

pub returns-then-k-eq0 : goal.returns-then-k-eq0
returns-then-k-eq0 c = hit _ _ _ _ (eq-eqb _ _ c.if-k-eq0.true) refl
