-- `commands::jobfile::belongs_job` meets its contract.
use Rattle.streams.specs.Input.{of_read}
use Rattle.streams.specs.laws.Input.{input_room, read_none}
use Rattle.streams.specs.laws.Output.{hands_after}
use Rattle.std.specs.Prelude.{None}
use Rattle.drivers.specs.Job.{full_job}
use Rattle.commands.specs.Output.{nothing_written}
use Rattle.commands.specs.Belongs.{judged_written, belongs_written}
use Rattle.commands.specs.laws.Jobfile.{of_both, of_judged, fronts_judged}
use Rattle.commands.proofs.jobfile.belongs_job.Goals as goal

pub returns-in-Some : goal.returns-in-Some
returns-in-Some g c =
    let t = c.in-Some.ensures in
    let f = c.judge_file.ensures in record {
      written = f.written;
      is_one = of_judged c.args.bytes.now _ _ _ (fronts_judged _ _ _ _ _ _ _ _ _ _ t.2 t.3 t.4 t.1) f.written f.is_one;
      writes = hands_after g.W.Sink _ _ _ _ _ t.0 f.writes;
    }

-- the line of a job that was refused is the same whatever the answer
pub returns-in_default : goal.returns-in_default
unfolding belongs_written
returns-in_default g c =
    let f = full_job c.args.bytes.now in record {
      written = belongs_written c.args.bytes.now None input_room;
      is_one = of_both None input_room read_none;
      writes = c.in_default.ensures (of_read None input_room (judged_written f.job f.table f.point) nothing_written);
    }
