-- `commands::taking::take_or_refuse` meets its contract.
use Rattle.std.proofs.Common.{subst, rules}
use Rattle.streams.specs.laws.Output.{hands_none}
use Rattle.commands.specs.Output.{Writes}
use Rattle.commands.specs.laws.Taken.{as_taken, taken_held, job_taken_is, job_refused_is}
use Rattle.commands.proofs.taking.take_or_refuse.Goals as goal

pub invariant_of-result : goal.invariant_of-result
invariant_of-result g c =
    let b = c.args.buffers.now in
    record { sound = (taken_held c.args.source c.args.bytes.now b.table b.xc b.mq b.out _ _ _ _ _ (job_taken_is c.args.source c.args.bytes.now b.table b.xc b.mq b.out _ _ _ _ _ (as_taken c.take_job-taken.ensures c.in-Ok.is))).0 }

pub returns-in-Ok : goal.returns-in-Ok
returns-in-Ok g c =
    let b = c.args.buffers.now in
    (hands_none g.W.Sink _ _, job_taken_is c.args.source c.args.bytes.now b.table b.xc b.mq b.out _ _ _ _ _ (as_taken c.take_job-taken.ensures c.in-Ok.is), search rules, search rules, search rules)

pub returns-in-Err : goal.returns-in-Err
returns-in-Err g c =
    let b = c.args.buffers.now in
    λ done.
    subst (Writes g.W.Sink c.args.console.now c.hand_text.new.console)
    (job_refused_is c.args.source c.args.bytes.now b.table b.xc b.mq b.out (search rules) (search rules) (search rules) (search rules) c.in-Err.text _ _ _ _
    (as_taken c.take_job-taken.ensures c.in-Err.is) done)
    c.hand_text.ensures
