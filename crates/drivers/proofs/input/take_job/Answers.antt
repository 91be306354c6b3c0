-- `drivers::input::take_job` meets its contract. Assumes nothing.
use Rattle.drivers.specs.Trace.{Text}
use Rattle.numbers.specs.declared.refusal.Fault.{Fault}
use Rattle.drivers.specs.declared.job.Job.{Job}
use Rattle.std.specs.Prelude.{Result}
use Prim.Native.Nat.{ℕ}
use mathlib.Core.Path.{◌≡◌, sym, ap, ◌∙◌}
use mathlib.Core.List.{List}
use borrow.Author.Tests.{le-leb, lt-leb}
use lib.ListN.{length}
use lib.Ieee.{Float}
use Rattle.numbers.specs.laws.Refusal.{failed, held, at_first, refuses}
use Rattle.drivers.specs.Input.{with_slices, job_refused, take_job_answer}
use Rattle.drivers.specs.laws.Input.{job_taken, taken_read, take_job_is}
use Rattle.drivers.specs.declared.trace.Source.{Source}
use Rattle.drivers.proofs.input.take_job.Goals as goal

-- what is taken by what was read
from_read : (source : Source) (out : List ℕ) (j q : Result Job Fault × List Float × List Float × List Float) (r : Result Job Text × List ℕ) → r ≡ job_taken source out j.0 → j ≡ q
    → with_slices j.1 j.2 j.3 r ≡ taken_read source out q
from_read source out j q r e f = ap (with_slices j.1 j.2 j.3) e ∙ ap (taken_read source out) f

pub returns-then-bytes-gt-LONGEST : goal.returns-then-bytes-gt-LONGEST
unfolding take_job_answer
returns-then-bytes-gt-LONGEST c =
    let a = c.args in
    refuses _ _ _ (at_first _ (failed (lt-leb (length a.bytes.now) 65536 c.if-bytes-gt-LONGEST.true)))
    (ap (λ (p : Text × List ℕ). with_slices a.table.now a.xc.now a.mq.now (job_refused p)) c.refused_line.ensures)

pub returns-in-Ok : goal.returns-in-Ok
returns-in-Ok c =
    let a = c.args in
    from_read a.source a.out.now _ _ _ (ap (job_taken a.source a.out.now) (sym c.in-Ok.is)) c.read_job-read.ensures
    ∙ take_job_is a.source _ _ _ _ a.out.now (held _ _ (le-leb (length a.bytes.now) 65536 c.if-bytes-gt-LONGEST.false))

pub returns-in-Err : goal.returns-in-Err
returns-in-Err c =
    let a = c.args in
    from_read a.source a.out.now _ _ _ (ap job_refused c.refused_line-in-Err.ensures ∙ ap (job_taken a.source a.out.now) (sym c.in-Err.is)) c.read_job-read.ensures
    ∙ take_job_is a.source _ _ _ _ a.out.now (held _ _ (le-leb (length a.bytes.now) 65536 c.if-bytes-gt-LONGEST.false))
