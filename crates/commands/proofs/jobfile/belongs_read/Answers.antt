-- `commands::jobfile::belongs_read` meets its contract.
use Rattle.streams.specs.laws.Output.{hands_none}
use Rattle.streams.specs.declared.output.Stream.TheVariants.{Stdout}
use Rattle.commands.specs.Output.{nothing_written}
use Rattle.commands.specs.laws.Jobfile.{of_job_file, unread_file}
use Rattle.commands.proofs.jobfile.belongs_read.Goals as goal

pub returns-in-Some : goal.returns-in-Some
returns-in-Some g c =
    let b = c.belongs_job.ensures in record {
      written = b.written;
      is_one = of_job_file c.args.read c.args.bytes.now c.in-Some.count c.in-Some.is b.written b.is_one;
      writes = b.writes;
    }

pub returns-in_default : goal.returns-in_default
returns-in_default g c = record {
  written = nothing_written;
  is_one = unread_file c.args.read c.args.bytes.now c.in_default.is;
  writes = hands_none g.W.Sink _ Stdout;
}
