-- `runner::run::run_bytes` meets its contract: the calls of `open` and of the run print the program's text.
use Rattle.drivers.specs.Trace.{Text}
use Rattle.drivers.specs.declared.run.Run.{Run}
use Rattle.std.specs.Prelude.{Result}
use Rattle.std.proofs.Common.{◌≡◌, ℕ, List, sym, ap, subst, ◌∙◌, arith, rules}
use lib.Ieee.{Float}
use Rattle.drivers.specs.laws.Program.{program_prints, run_all_prints, open_held, calls_text}
use Rattle.streams.specs.Output.{Hands}
use Rattle.streams.specs.declared.output.Stream.TheVariants.{Stdout}
use Rattle.runner.proofs.run.run_bytes.Goals as goal

-- the answer of `open`, once a branch knows which it is
as_known : {p q : (Result Run Text)} {table xc mq : List Float} {out : List ℕ} {r : Result Run Text × List Float × List Float × List Float × List ℕ} → (p, table, xc, mq, out) ≡ r → p ≡ q
    → r ≡ (q, table, xc, mq, out)
as_known {table = table} {xc = xc} {mq = mq} {out = out} e h = sym e ∙ ap (λ (p : (Result Run Text)). (p, table, xc, mq, out)) h

pub run_sized-requires : goal.run_sized-requires
run_sized-requires g c =
    let b = c.new-buffers.result in
    let o = c.open-opened in
    open_held c.args.bytes.now b.table b.xc b.mq b.out c.in-Ok.run' o.new.table o.new.xc o.new.mq o.new.out (as_known o.ensures c.in-Ok.is)

pub returns-in-Ok : goal.returns-in-Ok
returns-in-Ok g c =
    let b = c.new-buffers.result in
    let o = c.open-opened in
    subst (Hands g.W.Sink c.args.console.now c.run_sized.new.console Stdout)
    (run_all_prints c.args.bytes.now b.table b.xc b.mq o.new.table o.new.xc o.new.mq b.out o.new.out c.in-Ok.run'
    (search rules) (search rules) (search rules) (search rules) (as_known o.ensures c.in-Ok.is))
    c.run_sized.ensures

pub returns-in-Err : goal.returns-in-Err
returns-in-Err g c =
    let b = c.new-buffers.result in
    subst (Hands g.W.Sink c.args.console.now c.hand_text.new.console Stdout)
    (sym (ap (calls_text 65536) (as_known c.open-opened.ensures c.in-Err.is))
    ∙ program_prints 65536 (omega arith) c.args.bytes.now b.out (search rules) b.table b.xc b.mq (search rules) (search rules) (search rules))
    c.hand_text.ensures
