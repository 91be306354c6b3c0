-- `runner::handing::hand_text` meets its contract.
use Rattle.streams.specs.laws.Output.{hands_none}
use Rattle.runner.proofs.handing.hand_text.Goals as goal

pub returns-in_default : goal.returns-in_default
returns-in_default g c = rw c.in_default.is (hands_none g.W.Sink _ _)
