-- `commands::answer::answer_job` meets its contract.
use Rattle.std.proofs.Common.{subst}
use Rattle.streams.specs.laws.Output.{hands_after}
use Rattle.commands.specs.Output.{Writes}
use Rattle.commands.specs.Answer.{answer_written}
use Rattle.commands.specs.laws.Answer.{taken_written}
use Rattle.commands.proofs.answer.answer_job.Goals as goal

pub returns-in-Some : goal.returns-in-Some
returns-in-Some g c =
    let t = c.in-Some.ensures in
    subst (Writes g.W.Sink c.args.console.now c.run_job.new.console)
    (taken_written _ _ _ _ _ _ _ _ _ _ t.2 t.3 t.4 t.1)
    (hands_after g.W.Sink _ _ _ _ _ t.0 c.run_job.ensures)

pub returns-in_default : goal.returns-in_default
unfolding answer_written
returns-in_default g c = c.in_default.ensures _
