-- `drivers::run::Run::next` meets its contract. Assumes nothing.
use Rattle.std.specs.Prelude.{Ok, false}
use borrow.Author.Rules.{rules}
use Rattle.drivers.specs.Run.{next_answer}
use Rattle.drivers.specs.Trace.{last_pieces}
use Rattle.drivers.specs.laws.Text.{put_all}
use mathlib.Core.Path.{◌≡◌, sym}
use Rattle.numbers.specs.laws.Refusal.{unless_err, unless_ok}
use Rattle.oracles.specs.Ell.{ell_buffers}
use Rattle.drivers.proofs.run.Steps.{roomy, next_faulty, next_step, next_limit}
use Rattle.drivers.proofs.run.Run.next.Goals as goal

pub step-requires : goal.step-requires
step-requires c =
    let a = c.args in
    (c.if-self-options.true, roomy a.self a.table.now (ell_buffers a.mq.now a.xc.now a.grad_t.now) a.grad.now a.out.now (sym (unless_ok _ c.check-tested.ensures c.in-Ok.is)))

pub returns-then-self-options : goal.returns-then-self-options
returns-then-self-options c =
    next_step _ _ _ _ _ (sym (unless_ok _ c.check-tested.ensures c.in-Ok.is)) _ c.if-self-options.true c.step.ensures

pub returns-in-Err : goal.returns-in-Err
returns-in-Err c =
    next_faulty _ _ _ _ _ _ _ _ (sym (unless_err _ c.check-tested.ensures c.in-Err.is).1) c.refused.ensures

pub returns-else-self-options : goal.returns-else-self-options
returns-else-self-options c =
    let a = c.args in
    let text = c.put_last.new.self in
    let put : (text.at, text.out.now) ≡ put_all a.out.now 0 (last_pieces (record { found = false; steps = a.self.niter })) = rw (← c.new-text.ensures.place, ← c.new-text.ensures.holds) c.put_last.ensures.is in
    let all : (record { run = a.self; more = false; text = Ok text.at }, _, _, text.out.now) ≡ next_answer a.self a.table.now (ell_buffers a.mq.now a.xc.now a.grad_t.now) a.grad.now a.out.now =
    next_limit _ _ _ _ _ (sym (unless_ok _ c.check-tested.ensures c.in-Ok.is)) _ c.if-self-options.false put in
    search rules
