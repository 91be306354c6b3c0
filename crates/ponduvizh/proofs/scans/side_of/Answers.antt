-- `ponduvizh::scans::side_of` meets its contract. Assumes nothing.
use Rattle.std.proofs.Common.{refl}
use Rattle.numbers.specs.laws.Pick.{hit, skip}
use Rattle.ponduvizh.proofs.scans.side_of.Goals as goal

pub returns-then-broken : goal.returns-then-broken
returns-then-broken c = rw c.in-Some.is (hit _ _ _ _ c.if-broken.true refl)

pub returns-else-broken : goal.returns-else-broken
returns-else-broken c = rw c.in-Some.is (skip _ _ _ _ c.if-broken.false refl)
