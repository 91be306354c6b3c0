-- `runner::run::run_all` meets its contract.
use Rattle.std.proofs.Common.{◌<◌, ◌++◌, sym, ap, subst, ◌∙◌}
use Rattle.drivers.specs.laws.Calls.{CallEnd, calls_after, last_done, calls_fewer, calls_turn, all_from, texts_done, texts_turn, texts_from, text_of, texts_after}
use Rattle.streams.specs.Output.{Hands}
use Rattle.streams.specs.declared.output.Stream.TheVariants.{Stdout}
use Rattle.streams.specs.laws.Output.{hands_none, hands_more}
use Rattle.runner.proofs.run.run_all.Invariants.{left_by, last_after}
use Rattle.runner.proofs.run.run_all.Goals as goal

pub loop-printed-smaller : goal.loop-printed-smaller
loop-printed-smaller g c =
    let l = c.loop-printed in
    let r = left_by l.mq l.xc l.grad l.grad_t l.out l.printed in
    subst (λ (q : CallEnd). calls_after q.0 < calls_after r.0) (sym c.step-printed-in-loop-printed.ensures.out_after) (calls_fewer c.args.table.now r c.loop-printed-test.true)

pub loop-printed-preserved : goal.loop-printed-preserved
loop-printed-preserved g c =
    let k = g.W.Sink in
    let l = c.loop-printed in
    let table = c.args.table.now in
    let f = c.step-printed-in-loop-printed in
    let more = c.loop-printed-test.true in
    let r = left_by l.mq l.xc l.grad l.grad_t l.out l.printed in
    let q = left_by f.new.mq f.new.xc f.new.grad f.new.grad_t f.new.out f.result in (
      ap (last_after table) f.ensures.out_after ∙ sym (calls_turn table r more) ∙ l.invariant.0,
      λ end h. l.invariant.1 end
          (subst (Hands k l.console end Stdout)
          (ap (λ (q : CallEnd). text_of q ++ texts_after table q) f.ensures.out_after ∙ sym (texts_turn table r more))
          (hands_more k l.console f.new.console end (text_of q) (texts_after table q) f.ensures.handed h)),
    )

pub returns-clause-out_after : goal.returns-clause-out_after
returns-clause-out_after g c =
    let l = c.loop-printed in
    let table = c.args.table.now in
    let r = left_by l.mq l.xc l.grad l.grad_t l.out l.printed in
    sym (last_done _ table r c.loop-printed-test.false) ∙ l.invariant.0 ∙ all_from c.args.first table _ _ _ _ c.step-printed.ensures.out_after

pub returns-clause-handed : goal.returns-clause-handed
returns-clause-handed g c =
    let k = g.W.Sink in
    let l = c.loop-printed in
    let table = c.args.table.now in
    let f = c.step-printed in
    let r = left_by l.mq l.xc l.grad l.grad_t l.out l.printed in
    let q = left_by f.new.mq f.new.xc f.new.grad f.new.grad_t f.new.out f.result in
    subst (Hands k c.args.console.now l.console Stdout)
    (texts_from c.args.first table _ _ _ _ f.ensures.out_after)
    (hands_more k c.args.console.now f.new.console l.console (text_of q) (texts_after table q) f.ensures.handed
    (l.invariant.1 l.console (subst (Hands k l.console l.console Stdout) (sym (texts_done table r c.loop-printed-test.false)) (hands_none k l.console Stdout))))
