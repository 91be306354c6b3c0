-- `runner::run::run_stdin` meets its contract.
use Rattle.std.proofs.Common.{rules, []}
use Rattle.drivers.specs.Program.{program_text}
use Rattle.streams.specs.Input.{of_read}
use Rattle.streams.specs.laws.Input.{read_into}
use Rattle.streams.specs.Output.{Hands}
use Rattle.streams.specs.declared.output.Stream.TheVariants.{Stdout}
use Rattle.streams.specs.laws.Output.{hands_after}
use Rattle.runner.proofs.run.run_stdin.Goals as goal

pub returns : goal.returns
returns g c =
    let k = g.W.Sink in
    let r = c.read_all-read in
    let all : Hands k c.new-writers.result c.run_read.new.console Stdout (of_read r.result r.new.bytes program_text []) = hands_after k _ _ _ Stdout _ r.ensures.told c.run_read.ensures in
    record { read = r.result; bytes = r.new.bytes; read_into = read_into _ _ r.auto.bytes r.ensures.within; printed = search rules }
