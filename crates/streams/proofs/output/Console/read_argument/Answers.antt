-- `streams::output::Console::read_argument` meets its contract.
use Rattle.std.proofs.Common.{refl}
use Rattle.streams.specs.laws.Output.{hands_kept}
use Rattle.streams.proofs.output.Console.read_argument.Goals as goal

pub returns-clause-told : goal.returns-clause-told
returns-clause-told g c = hands_kept g.W.Sink _ _ refl refl
