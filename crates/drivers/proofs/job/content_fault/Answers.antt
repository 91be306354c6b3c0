-- `drivers::job::content_fault` meets its contract, a fault at a time. Assumes nothing.
use Rattle.std.specs.Prelude.{is_err}
use mathlib.Core.Path.{◌≡◌, ap, ◌∙◌}
use mathlib.Core.Bool.{true, false}
use mathlib.Core.List.{List}
use Prim.Native.Nat.{ℕ, ◌≤◌}
use Rattle.numbers.specs.Refusal.{◌⨾◌, Tests}
use Rattle.numbers.specs.laws.Refusal.{stops, passes, exit_same}
use Rattle.drivers.specs.Rules.{n_place}
use Rattle.drivers.specs.Record.{size_fault, fields_of, half_at, lengths_fault, place}
use Rattle.drivers.specs.Job.{job_at}
use Rattle.drivers.specs.laws.Job.{oracle_fault, content_fault, size_small}
use Rattle.drivers.specs.declared.job.Job.{Job}
use Rattle.drivers.proofs.job.content_fault.Goals as goal

n_small : (bytes places : List ℕ) (j : Job) → j ≡ job_at bytes places → half_at bytes (place places n_place) ≤ 32 → j.n ≤ 32
unfolding job_at
n_small bytes places j d h = rw d h

-- the first test said f, the lengths' g
module _ (bytes places : List ℕ) (f : Tests) (e : f ≡ size_fault n_place 2 bytes (place places n_place)) where
  at_size : is_err f ≡ true → f ≡ content_fault bytes places
  at_size t = rw (← e) (stops f _ t)

  module _ (t : is_err f ≡ false) (j : Job) (d : j ≡ job_at bytes places) (g : Tests) (e₂ : g ≡ lengths_fault j.n bytes (fields_of bytes)) where
    answer : (r : Tests) → r ≡ (g ⨾ oracle_fault j places) → r ≡ content_fault bytes places
    answer r h = rw (← d, ← e, ← e₂) (passes f _ r t h)

    at_lengths : is_err g ≡ true → g ≡ content_fault bytes places
    at_lengths u = answer g (stops g _ u)

    behind : is_err g ≡ false → (r : Tests) → r ≡ oracle_fault j places → r ≡ content_fault bytes places
    behind u r h = answer r (passes g _ r u h)

pub returns-in_err-size_fault : goal.returns-in_err-size_fault
returns-in_err-size_fault c =
    let a = c.args in
    exit_same c.from_residual.ensures.1 c.in_err-size_fault.was ∙ at_size a.bytes.now a.places.now _ c.size_fault.ensures (ap is_err c.in_err-size_fault.was)

pub lengths_fault-requires : goal.lengths_fault-requires
lengths_fault-requires c =
    n_small _ _ _ c.job_at-job.ensures (size_small n_place 2 _ _ _ c.size_fault.ensures (ap is_err c.in_ok-size_fault.was))

pub returns-in_err-lengths_fault : goal.returns-in_err-lengths_fault
returns-in_err-lengths_fault c =
    let a = c.args in
    exit_same c.from_residual-in_err-lengths_fault.ensures.1 c.in_err-lengths_fault.was
    ∙ at_lengths a.bytes.now a.places.now _ c.size_fault.ensures (ap is_err c.in_ok-size_fault.was)
    _ c.job_at-job.ensures _ c.lengths_fault.ensures (ap is_err c.in_err-lengths_fault.was)

pub returns : goal.returns
returns c =
    let a = c.args in
    behind a.bytes.now a.places.now _ c.size_fault.ensures (ap is_err c.in_ok-size_fault.was)
    _ c.job_at-job.ensures _ c.lengths_fault.ensures (ap is_err c.in_ok-lengths_fault.was) _ c.oracle_fault.ensures
