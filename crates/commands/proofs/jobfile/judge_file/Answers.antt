-- `commands::jobfile::judge_file` meets its contract.
use Rattle.streams.specs.laws.Input.{read_into}
use Rattle.streams.specs.laws.Output.{hands_after}
use Rattle.commands.specs.laws.Jobfile.{of_answer}
use Rattle.commands.proofs.jobfile.judge_file.Goals as goal

pub returns : goal.returns
returns g c =
    let r = c.read_argument-read in record {
      written = _;
      is_one = of_answer r.result r.new.bytes (read_into _ _ r.auto.bytes r.ensures.within);
      writes = hands_after g.W.Sink _ _ _ _ _ r.ensures.told c.judge_read.ensures;
    }
