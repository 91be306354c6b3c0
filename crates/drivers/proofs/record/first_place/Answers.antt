-- `drivers::record::first_place` meets its contract. Assumes nothing.
use mathlib.Core.Path.{refl}
use borrow.Author.Tests.{eq-eqb, ne_eqb}
use Rattle.numbers.specs.laws.Pick.{hit, skip}
use Rattle.drivers.proofs.record.first_place.Goals as goal

pub returns-then-old-eq0 : goal.returns-then-old-eq0
returns-then-old-eq0 c = hit _ _ _ _ (eq-eqb _ 0 c.if-old-eq0.true) refl

pub returns : goal.returns
returns c = skip _ _ _ _ (ne_eqb _ 0 c.if-old-eq0.false) refl
