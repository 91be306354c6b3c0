-- `commands::jobfile::judge_read` meets its contract.
use Rattle.std.proofs.Common.{◌*◌, take}
use Rattle.commands.specs.Belongs.{judged_written}
use Rattle.streams.specs.laws.Input.{of_some, of_none}
use Rattle.streams.specs.laws.Output.{hands_none}
use Rattle.streams.specs.declared.output.Stream.TheVariants.{Stdout}
use Rattle.commands.specs.Output.{nothing_written, Writes}
use Rattle.commands.proofs.jobfile.judge_read.Goals as goal

pub returns-in-Some : goal.returns-in-Some
returns-in-Some g c =
    let j = c.args.taken.job in
    let b = c.args.buffers.now in
    of_some (Writes g.W.Sink c.args.console.now c.judge_answer.new.console) c.args.read c.args.bytes.now (judged_written j (take (j.rows * j.n) b.table) (take j.n b.xc)) nothing_written c.in-Some.count c.in-Some.is c.judge_answer.ensures

pub returns-in_default : goal.returns-in_default
returns-in_default g c =
    let j = c.args.taken.job in
    let b = c.args.buffers.now in
    of_none (Writes g.W.Sink c.args.console.now c.args.console.now) c.args.read c.args.bytes.now (judged_written j (take (j.rows * j.n) b.table) (take j.n b.xc)) nothing_written c.in_default.is (hands_none g.W.Sink _ Stdout)
