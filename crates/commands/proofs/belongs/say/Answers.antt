-- `commands::belongs::say` meets its contract.
use Rattle.streams.specs.laws.Output.{hands_none}
use Rattle.commands.proofs.belongs.say.Goals as goal

pub returns-in_default : goal.returns-in_default
returns-in_default g c = rw c.in_default.is (hands_none g.W.Sink _ _)
