-- `commands::file::file_job` meets its contract.
use Rattle.std.proofs.Common.{subst, ◌∙◌, ap}
use Rattle.streams.specs.laws.Output.{hands_after}
use Rattle.commands.specs.Output.{Writes}
use Rattle.commands.specs.File.{file_written}
use Rattle.commands.specs.laws.File.{limits_sound, taken_filed, fronts_filed}
use Rattle.commands.proofs.file.file_job.Goals as goal

pub invariant_of-hand_job : goal.invariant_of-hand_job
invariant_of-hand_job g c = record { sound = rw c.with_limits-job.ensures (limits_sound c.args.limits _ c.in-Some.sound.sound) }

pub returns-in-Some : goal.returns-in-Some
returns-in-Some g c =
    let t = c.in-Some.ensures in
    let b = c.take_or_refuse-taken.new.buffers in
    subst (Writes g.W.Sink c.args.console.now c.hand_job.new.console)
    (ap (λ j. fronts_filed j b.table b.xc b.mq) c.with_limits-job.ensures ∙ taken_filed _ _ _ _ _ _ _ _ _ _ _ t.2 t.3 t.4 t.1)
    (hands_after g.W.Sink _ _ _ _ _ t.0 c.hand_job.ensures)

pub returns-in_default : goal.returns-in_default
unfolding file_written
returns-in_default g c = c.in_default.ensures _
