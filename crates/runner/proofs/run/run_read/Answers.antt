-- `runner::run::run_read` meets its contract.
use Rattle.std.proofs.Common.{[]}
use Rattle.drivers.specs.Program.{program_text}
use Rattle.streams.specs.laws.Input.{of_some, of_none}
use Rattle.streams.specs.Output.{Hands}
use Rattle.streams.specs.declared.output.Stream.TheVariants.{Stdout}
use Rattle.streams.specs.laws.Output.{hands_none}
use Rattle.runner.proofs.run.run_read.Goals as goal

pub returns-in-Some : goal.returns-in-Some
returns-in-Some g c =
    of_some (Hands g.W.Sink c.args.console.now c.run_bytes.new.console Stdout) c.args.read c.args.bytes.now program_text [] c.in-Some.count c.in-Some.is c.run_bytes.ensures

pub returns-in_default : goal.returns-in_default
returns-in_default g c =
    of_none (Hands g.W.Sink c.args.console.now c.args.console.now Stdout) c.args.read c.args.bytes.now program_text [] c.in_default.is (hands_none g.W.Sink _ Stdout)
