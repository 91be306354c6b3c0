-- `commands::answer::run_sized` meets its contract.
use Rattle.std.proofs.Common.{subst, ◌∙◌}
use Rattle.streams.specs.Output.{Hands}
use Rattle.streams.specs.declared.output.Stream.TheVariants.{Stdout}
use Rattle.streams.specs.laws.Output.{hands_none}
use Rattle.commands.specs.laws.Answer.{made_fresh, made_always, call_of, ended_record, not_ended}
use Rattle.commands.proofs.answer.run_sized.Goals as goal

pub returns-in-Ok-answer : goal.returns-in-Ok-answer
returns-in-Ok-answer g c =
    let t = c.args.taken in
    let j = t.job in
    let p = c.requires in
    let call = c.cutting_plane_feas-run in
    let fresh = made_fresh j t.sound _ c.new_with_matrix.ensures _ c.in-Ok.is in
    let e = call_of j _ _ _ _ _ _ c.oracle-oracle.ensures fresh call.ensures.answer_and_state in
    subst (Hands g.W.Sink c.args.console.now c.hand_record.new.console Stdout)
    (ended_record j t.sound _ _ _ _ p.0 p.1 _ _ _ e (call.auto.x_best ∙ p.1) _ c.in-Ok-answer.is)
    c.hand_record.ensures

pub returns-in_default-answer : goal.returns-in_default-answer
returns-in_default-answer g c =
    let t = c.args.taken in
    let j = t.job in
    let p = c.requires in
    let call = c.cutting_plane_feas-run in
    let fresh = made_fresh j t.sound _ c.new_with_matrix.ensures _ c.in-Ok.is in
    let e = call_of j _ _ _ _ _ _ c.oracle-oracle.ensures fresh call.ensures.answer_and_state in
    subst (Hands g.W.Sink c.args.console.now c.args.console.now Stdout)
    (not_ended j t.sound _ _ _ _ p.0 p.1 _ _ _ e _ c.in_default-answer.is)
    (hands_none g.W.Sink _ _)

pub returns-in_default : goal.returns-in_default
returns-in_default g c = absurd (made_always c.args.taken.job c.args.taken.sound _ c.new_with_matrix.ensures _ c.in_default.is)
