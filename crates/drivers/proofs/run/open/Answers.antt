-- `drivers::run::open` meets its contract. Assumes nothing.
use Rattle.drivers.specs.declared.run.Run.{Run}
use Rattle.drivers.specs.Trace.{Text}
use Rattle.drivers.specs.declared.job.Job.{Job}
use Rattle.std.specs.Prelude.{Result}
use Prim.Native.Nat.{ℕ}
use mathlib.Core.Path.{◌≡◌, sym, ap, ◌∙◌}
use mathlib.Core.List.{List}
use lib.Ieee.{Float}
use Rattle.drivers.specs.Input.{with_slices}
use Rattle.drivers.specs.Run.{opened_taken, open_answer}
use Rattle.drivers.proofs.run.open.Goals as goal

-- what is opened by what was taken
from_taken : (t q : Result Job Text × List Float × List Float × List Float × List ℕ) (r : Result Run Text × List ℕ) → r ≡ opened_taken t.4 t.0 → t ≡ q
    → with_slices t.1 t.2 t.3 r ≡ with_slices q.1 q.2 q.3 (opened_taken q.4 q.0)
from_taken t q r e f =
    ap (with_slices t.1 t.2 t.3) e
    ∙ ap (λ (p : Result Job Text × List Float × List Float × List Float × List ℕ). with_slices p.1 p.2 p.3 (opened_taken p.4 p.0)) f

pub returns-in-Ok : goal.returns-in-Ok
unfolding open_answer
returns-in-Ok c =
    from_taken _ _ _ (c.open_job.ensures ∙ ap (opened_taken _) (sym c.in-Ok.is)) c.take_job-taken.ensures

pub returns-in-Err : goal.returns-in-Err
unfolding open_answer
returns-in-Err c =
    from_taken _ _ _ (ap (opened_taken _) (sym c.in-Err.is)) c.take_job-taken.ensures
