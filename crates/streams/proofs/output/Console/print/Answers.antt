-- `streams::output::Console::print` meets its contract.
use Rattle.std.proofs.Common.{rules}
use Rattle.streams.specs.laws.Output.{unwritten, put_written}
use Rattle.streams.proofs.output.Console.print.Goals as goal

pub returns-then-self : goal.returns-then-self
returns-then-self g c =
    let written = unwritten g.W.Sink _ c.args.self.now.output.now c.args.text.now c.if-self.true in
    search rules

pub returns-in-Err : goal.returns-in-Err
returns-in-Err g c =
    let written = put_written g.W.Sink _ c.args.self.now.output.now c.args.text.now _ _ c.if-self.false c.in-Err.ensures.given in
    search rules

pub returns-in_default : goal.returns-in_default
returns-in_default g c =
    let written = put_written g.W.Sink _ c.args.self.now.output.now c.args.text.now _ _ c.if-self.false c.in_default.ensures.given in
    search rules
