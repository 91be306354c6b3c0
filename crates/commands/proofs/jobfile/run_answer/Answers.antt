-- `commands::jobfile::run_answer` meets its contract.
use Rattle.streams.specs.laws.Input.{read_into}
use Rattle.streams.specs.laws.Output.{hands_after}
use Rattle.commands.specs.Jobfile.{answered}
use Rattle.commands.proofs.jobfile.run_answer.Goals as goal

pub returns : goal.returns
returns g c =
    let r = c.read_all-read in record {
      written = _;
      is_one = answered r.result r.new.bytes (read_into _ _ r.auto.bytes r.ensures.within);
      writes = hands_after g.W.Sink _ _ _ _ _ r.ensures.told c.answer_read.ensures;
    }
