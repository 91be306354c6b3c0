-- `commands::jobfile::print_usage` meets its contract.
use Rattle.commands.specs.Output.{usage_written}
use Rattle.commands.specs.Jobfile.{advised}
use Rattle.commands.proofs.jobfile.print_usage.Goals as goal

pub returns : goal.returns
returns g c = record { written = usage_written; is_one = advised; writes = c.hand.ensures }
