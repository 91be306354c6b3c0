-- What the loop of `runner::run::run_all` keeps: what is left of the calls computes the answer and the texts, and fewer are left at each turn.
use Rattle.std.specs.Prelude.{◌≡◌, ℕ, List, Float}
use Rattle.drivers.specs.declared.run.Printed.{Printed}
use Rattle.drivers.specs.laws.Calls.{CallEnd, calls_after, last_of, texts_after}
use Rattle.streams.specs.Output.{Hands}
use Rattle.streams.specs.declared.output.Stream.TheVariants.{Stdout}
use Rattle.runner.proofs.run.run_all.Given as goal

-- what a call left
abbrev pub left_by : List Float → List Float → List Float → List Float → List ℕ → Printed → CallEnd
left_by mq xc grad grad_t out printed = (printed, record { mq = mq; xc = xc; grad_t = grad_t }, grad, out)

abbrev pub last_after : List Float → CallEnd → CallEnd
last_after table r = last_of (calls_after r.0) table r

abbrev pub invariant-loop-printed : goal.invariant-loop-printed
invariant-loop-printed g l =
    let k = g.W.Sink in
    let r = left_by l.mq l.xc l.grad l.grad_t l.out l.printed in
    let r₀ = left_by l.initial.mq l.initial.xc l.initial.grad l.initial.grad_t l.initial.out l.initial.printed in
    (last_after l.table r ≡ last_after l.table r₀)
    -- whoever hands over the rest has handed over all
    × ((end : _) → Hands k l.console end Stdout (texts_after l.table r) → Hands k l.initial.console end Stdout (texts_after l.table r₀))

abbrev pub decreases-loop-printed : goal.decreases-loop-printed
decreases-loop-printed g l = calls_after l.printed
