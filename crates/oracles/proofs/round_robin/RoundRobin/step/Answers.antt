-- `oracles::round_robin::RoundRobin::step` meets its contract. Assumes nothing.
use Rattle.oracles.proofs.Signed.{wraps, goes_on}
use Rattle.oracles.proofs.round_robin.RoundRobin.step.Goals as goal

pub returns-then-next-self : goal.returns-then-next-self
returns-then-next-self c = wraps _ c.requires c.if-next-self.true

pub returns : goal.returns
returns c = goes_on _ c.requires c.if-next-self.false
