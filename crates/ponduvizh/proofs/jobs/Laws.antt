-- A job told by its parts is the job told. Assumes nothing.
use Rattle.numbers.specs.declared.refusal.Fault.{Fault}
use Rattle.numbers.specs.Refusal.{At, number_at}
use Rattle.std.specs.Prelude.{Ok, Result}
use mathlib.Core.Path.{◌≡◌, refl, ap}
use mathlib.Core.List.{List, [], ◌∷◌}
use Prim.Native.Nat.{ℕ}
use lib.IntN.{ℤ}
use lib.Ieee.{Float}
use Rattle.numbers.specs.declared.refusal.Refusal.{Refusal}
use Rattle.oracles.specs.declared.lowpass_oracle.LowpassOracle.{LowpassOracle}
use Rattle.drivers.specs.Job.{job_oracle}
use Rattle.drivers.specs.declared.job.Job.{Job}
use Rattle.ponduvizh.specs.ExportedRuns.{JobNumbers, bands_of, marks_of, numbers_of, job_numbers, place_or, job_numbers_or, read_exported}

pub was_read : (a : (Result Job Fault)) (j : Job) (place : ℕ) (l l' : JobNumbers) → a ≡ Ok j → l' ≡ job_numbers j → ◌≡◌ {A = ℕ × JobNumbers} (place, l') (place_or a place, job_numbers_or a l)
was_read a j place l l' m h = rw (m, h) refl

pub was_refused : (a : (Result Job Fault)) (why : Refusal) (at place : ℕ) (l : JobNumbers) → a ≡ At why at → ◌≡◌ {A = ℕ × JobNumbers} (at, l) (place_or a place, job_numbers_or a l)
was_refused a why at place l m = rw m refl

pub read_law : (a : (Result Job Fault)) (table xc mq : List Float) (r : Result Job Fault × List Float × List Float × List Float) (code place at : ℕ) (l l' : JobNumbers)
    → (a, table, xc, mq) ≡ r
    → code ≡ number_at a
    → ◌≡◌ {A = ℕ × JobNumbers} (at, l') (place_or a place, job_numbers_or a l)
    → ◌≡◌ {A = (ℕ × ℕ × JobNumbers) × List Float × List Float × List Float} ((code, at, l'), table, xc, mq) (read_exported r place l)
unfolding read_exported
read_law a table xc mq r code place at l l' d h t = rw (h, ← d, ap (λ p. p.0) t, ap (λ p. p.1) t) refl

pub put_law : (j : Job) (o : LowpassOracle) (bands marks : List ℤ) (numbers : List Float)
    → o ≡ job_oracle j
    → bands ≡ bands_of j
    → marks ≡ marks_of o
    → numbers ≡ numbers_of j
    → ◌≡◌ {A = JobNumbers} (record { sizes = j.n ∷ j.rows ∷ j.options.max_iters ∷ []; bands = bands; marks = marks; numbers = numbers }) (job_numbers j)
unfolding job_numbers
put_law j o bands marks numbers h a b d = rw (a, b, d, h) refl
