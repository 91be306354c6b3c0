-- `drivers::record::content_at` meets its contract. Assumes nothing.
use mathlib.Core.Path.{refl}
use native.Mathlib.Omega.{arith}
use borrow.Author.Tests.{lt-ltb, le-ltb}
use Rattle.numbers.specs.laws.Pick.{hit, skip}
use Rattle.drivers.specs.laws.Record.{has_none, has_some}
use Rattle.drivers.proofs.record.content_at.Goals as goal

pub returns-then-not-has_room : goal.returns-then-not-has_room
returns-then-not-has_room c = hit _ _ _ _ (lt-ltb _ _ (has_none _ _ _ c.has_room.ensures c.if-not-has_room.true (omega arith))) refl

pub overflow_add-result : goal.overflow_add-result
overflow_add-result c = record { fits = omega (arith, has_some _ _ _ c.has_room.ensures c.if-not-has_room.false) }

pub returns : goal.returns
returns c = skip _ _ _ _ (le-ltb _ _ (omega (arith, has_some _ _ _ c.has_room.ensures c.if-not-has_room.false))) refl
