-- `commands::arguments::asks` meets its contract.
use Rattle.commands.specs.laws.Arguments.{asked}
use Rattle.commands.proofs.arguments.asks.Goals as goal

pub returns : goal.returns
returns c = asked _ _ _ _ _ c.eq.ensures
