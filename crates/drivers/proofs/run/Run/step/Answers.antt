-- `drivers::run::Run::step` meets its contract. Assumes nothing.
use Rattle.std.specs.Prelude.{Ok}
use borrow.Author.Rules.{rules}
use Rattle.oracles.specs.Ell.{ell_buffers}
use Rattle.drivers.specs.Run.{step_printed}
use Rattle.drivers.specs.laws.Writer.{puts_on}
use mathlib.Core.Path.{◌≡◌, refl, sym, ap, ◌∙◌}
use mathlib.Core.Bool.{true, false}
use mathlib.Core.List.{[], ◌++◌}
use native.Mathlib.Numerals.{add-one}
use native.Mathlib.Omega.{arith}
use Rattle.drivers.specs.laws.Text.{put_all, put_none, put_on}
use Rattle.drivers.specs.Trace.{answer_pieces, ended_pieces}
use Rattle.drivers.proofs.run.Steps.{step_shown}
use Rattle.numbers.specs.laws.Pick.{hit, skip}
use Rattle.drivers.proofs.run.Run.step.Goals as goal

pub overflow_add-self : goal.overflow_add-self
overflow_add-self c =
    record { fits = omega (arith, c.requires.0) }

pub returns-then-goes_on : goal.returns-then-goes_on
returns-then-goes_on c =
    let a = c.args in
    let text = c.put_step.new.self in
    let put : (text.at, text.out.now) ≡ put_all a.out.now 0 (answer_pieces a.self.niter c.feas_step-step.result.answer ++ []) =
    put_on _ _ _ _ _ _ (rw (← c.new-text.ensures.place, ← c.new-text.ensures.holds) c.put_step.ensures.is) (put_none _ _) in
    let all : (record { run = c.after_step.result; more = true; text = Ok text.at }, _, _, text.out.now) ≡ step_printed a.self a.table.now (ell_buffers a.mq.now a.xc.now a.grad_t.now) a.grad.now a.out.now =
    step_shown _ _ _ _ _ _ _ true [] _ _ _ c.requires.1 c.feas_step-step.ensures (sym c.if-goes_on.true ∙ c.goes_on.ensures)
    (hit _ _ _ _ refl refl) put (hit _ _ _ _ refl (add-one _)) c.after_step.ensures in
    search rules

pub returns : goal.returns
returns c =
    let a = c.args in
    let text = c.put_ended.new.self in
    let put : (text.at, text.out.now) ≡ put_all a.out.now 0 (answer_pieces a.self.niter c.feas_step-step.result.answer ++ ended_pieces c.feas_ended.result) =
    rw (← c.new-text.ensures.place, ← c.new-text.ensures.holds) (puts_on c.put_step.ensures c.put_ended.ensures).is in
    let all : (record { run = c.after_step-2.result; more = false; text = Ok text.at }, _, _, text.out.now) ≡ step_printed a.self a.table.now (ell_buffers a.mq.now a.xc.now a.grad_t.now) a.grad.now a.out.now =
    step_shown _ _ _ _ _ _ _ false _ _ _ _ c.requires.1 c.feas_step-step.ensures (sym c.if-goes_on.false ∙ c.goes_on.ensures)
    (skip _ _ _ _ refl (ap ended_pieces c.feas_ended.ensures)) put (skip _ _ _ _ refl refl) c.after_step-2.ensures in
    search rules
