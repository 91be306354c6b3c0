-- `commands::jobfile::answer_read` meets its contract.
use Rattle.commands.specs.Answer.{answer_written}
use Rattle.streams.specs.laws.Input.{of_some, of_none}
use Rattle.streams.specs.laws.Output.{hands_none}
use Rattle.streams.specs.declared.output.Stream.TheVariants.{Stdout}
use Rattle.commands.specs.Output.{nothing_written, Writes}
use Rattle.commands.proofs.jobfile.answer_read.Goals as goal

pub returns-in-Some : goal.returns-in-Some
returns-in-Some g c =
    of_some (Writes g.W.Sink c.args.console.now c.answer_job.new.console) c.args.read c.args.bytes.now answer_written nothing_written c.in-Some.count c.in-Some.is c.answer_job.ensures

pub returns-in_default : goal.returns-in_default
returns-in_default g c =
    of_none (Writes g.W.Sink c.args.console.now c.args.console.now) c.args.read c.args.bytes.now answer_written nothing_written c.in_default.is (hands_none g.W.Sink _ Stdout)
