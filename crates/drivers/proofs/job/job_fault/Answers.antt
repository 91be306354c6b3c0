-- `drivers::job::job_fault` meets its contract: the walk, and what follows it. Assumes nothing.
use Rattle.std.specs.Prelude.{is_err}
use mathlib.Core.Path.{◌≡◌, refl, ap, ◌∙◌}
use mathlib.Core.Bool.{true, false}
use mathlib.Core.List.{List}
use Prim.Native.Nat.{ℕ}
use Rattle.numbers.specs.Refusal.{◌⨾◌, Tests}
use Rattle.numbers.specs.laws.Refusal.{stops, passes, exit_same}
use Rattle.drivers.specs.Rules.{job_form}
use Rattle.drivers.specs.Record.{no_places, record_fault}
use Rattle.drivers.specs.Job.{job_walk, job_fault}
use Rattle.drivers.specs.laws.Job.{content_fault}
use Rattle.drivers.proofs.job.job_fault.Goals as goal

-- the walk found f and noted the places
module _ (bytes places₀ places : List ℕ) (e₀ : places₀ ≡ no_places) (f : Tests) (e : (f, places) ≡ record_fault bytes job_form places₀) where
  answer : (r : Tests) → r ≡ (f ⨾ content_fault bytes places) → (r ≡ job_fault bytes) × (places ≡ (job_walk bytes).1)
  unfolding job_fault
  answer r d = rw (← (e ∙ ap (λ (l : List ℕ). record_fault bytes job_form l) e₀)) (d, refl)

  at_walk : is_err f ≡ true → (f ≡ job_fault bytes) × (places ≡ (job_walk bytes).1)
  at_walk t = answer f (stops f _ t)

  behind : is_err f ≡ false → (r : Tests) → r ≡ content_fault bytes places → (r ≡ job_fault bytes) × (places ≡ (job_walk bytes).1)
  behind t r d = answer r (passes f _ r t d)

pub returns-in_err-record_fault : goal.returns-in_err-record_fault
returns-in_err-record_fault c =
    let p = at_walk _ _ _ c.requires _ c.record_fault.ensures (ap is_err c.in_err-record_fault.was) in
    rw (exit_same c.from_residual.ensures.1 c.in_err-record_fault.was) (record { value = p.0; places_after = p.1 })

pub returns : goal.returns
returns c =
    let p = behind _ _ _ c.requires _ c.record_fault.ensures (ap is_err c.in_ok-record_fault.was) _ c.content_fault.ensures in
    record { value = p.0; places_after = p.1 }
