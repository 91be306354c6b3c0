-- `commands::jobfile::run_belongs` meets its contract.
use Rattle.streams.specs.laws.Input.{read_into}
use Rattle.streams.specs.laws.Output.{hands_after}
use Rattle.commands.specs.laws.Jobfile.{of_file}
use Rattle.commands.proofs.jobfile.run_belongs.Goals as goal

pub returns : goal.returns
returns g c =
    let r = c.read_argument-read in
    let b = c.belongs_read.ensures in record {
      written = b.written;
      is_one = of_file r.result r.new.bytes (read_into _ _ r.auto.bytes r.ensures.within) b.written b.is_one;
      writes = hands_after g.W.Sink _ _ _ _ _ r.ensures.told b.writes;
    }
