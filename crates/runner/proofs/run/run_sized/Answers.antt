-- `runner::run::run_sized` meets its contract.
use Rattle.std.proofs.Common.{ℕ, ◌*◌, ◌≤◌, List, take, replicate, ap, subst, ◌∙◌, arith}
use lib.Ieee.{Float}
use Rattle.numbers.specs.F64.{0ᶠ}
use Rattle.oracles.specs.Ell.{ell_buffers}
use Rattle.drivers.specs.laws.Calls.{run_all_text}
use Rattle.drivers.specs.laws.JobRuns.{zeros_front}
use Rattle.streams.specs.Output.{Hands}
use Rattle.streams.specs.declared.output.Stream.TheVariants.{Stdout}
use Rattle.runner.proofs.run.run_sized.Goals as goal

pub returns : goal.returns
returns g c =
    let run = c.args.run in
    let b = c.args.buffers.now in
    let n = run.ell.ndim in
    let in-32 : n ≤ 32 = omega (arith, c.requires.xc_long) in
    let text : ℕ → ℕ → List Float → List ℕ = λ rows n zeros. run_all_text run (take (rows * n) b.table) (ell_buffers (take (n * n) b.mq) (take n b.xc) zeros) zeros b.out in
    subst (Hands g.W.Sink c.args.console.now c.run_all.new.console Stdout)
    ((λ i. text (c.rows.ensures i) (c.n-n.ensures i) (take (c.n-n.ensures i) (replicate 32 0ᶠ))) ∙ ap (text run.rows n) (zeros_front n 32 in-32))
    c.run_all.ensures.handed
