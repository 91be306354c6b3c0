-- `drivers::trace::refused_line` meets its contract. Assumes nothing.
use native.Mathlib.Omega.{arith}
use mathlib.Core.Path.{◌≡◌, ap, ◌∙◌}
use Rattle.std.specs.Prelude.{ℕ, Ok, Result}
use borrow.Author.Tests.{leb-true, leb-false}
use Rattle.numbers.specs.declared.refusal.Refusal.{Refusal}
use Rattle.numbers.specs.laws.Refusal.{asked_ok, asked_err, gone}
use borrow.Author.Rules.{rules}
use Rattle.drivers.specs.Trace.{refused_pieces, refused_line_answer}
use Rattle.drivers.specs.laws.Text.{put_all}
use Rattle.drivers.specs.laws.Trace.{not_printed_in, printed_in, refused_most}
use Rattle.drivers.proofs.trace.refused_line.Goals as goal

pub returns : goal.returns
returns c =
    let a = c.args in
    let line = c.put_refused.new.self in
    let put : (line.at, line.out.now) ≡ put_all a.out.now 0 (refused_pieces a.source a.why a.place) = rw (← c.new-line.ensures.place, ← c.new-line.ensures.holds) c.put_refused.ensures.is in
    let all : (Ok line.at, line.out.now) ≡ refused_line_answer a.source a.why a.place a.out.now =
    printed_in _ _ _ (leb-true _ _ (asked_ok _ _ c.ask.ensures.value c.in_ok-ask.was)) (omega (arith, refused_most a.source a.why a.place)) put in
    search rules

pub returns-in_err-ask : goal.returns-in_err-ask
returns-in_err-ask c =
    let q = asked_err _ _ c.ask.ensures.value c.in_err-ask.was in
    ap (λ (r : Result ℕ Refusal). (r, c.args.out.now)) (gone c.from_residual.ensures.1 q.1) ∙ not_printed_in _ _ (leb-false _ _ q.0)
