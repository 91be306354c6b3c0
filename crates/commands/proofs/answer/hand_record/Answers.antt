-- `commands::answer::hand_record` meets its contract.
use Rattle.std.proofs.Common.{subst, ◌∙◌}
use Rattle.numbers.specs.laws.Arr.{dimension_most}
use Rattle.streams.specs.Output.{Hands}
use Rattle.streams.specs.declared.output.Stream.TheVariants.{Stdout}
use Rattle.drivers.specs.laws.AnswerBytes.{write_answer_front}
use Rattle.commands.specs.laws.Front.{record_front, record_made}
use Rattle.commands.proofs.answer.hand_record.Goals as goal

pub returns-in-Ok : goal.returns-in-Ok
returns-in-Ok g c =
    let a = c.args in
    let p = c.requires in
    let front = write_answer_front a.answer a.point.now a.n a.out.now p.0 (dimension_most a.n p.0) p.1 p.2 in
    subst (Hands g.W.Sink a.console.now c.hand_front.new.console Stdout)
    (record_front _ _ _ _ (c.write_answer-written.ensures ∙ front) _ c.in-Ok.is)
    c.hand_front.ensures

pub returns-in_default : goal.returns-in_default
returns-in_default g c =
    let a = c.args in
    let p = c.requires in
    let front = write_answer_front a.answer a.point.now a.n a.out.now p.0 (dimension_most a.n p.0) p.1 p.2 in
    absurd (record_made _ _ _ _ (c.write_answer-written.ensures ∙ front) _ c.in_default.is)
