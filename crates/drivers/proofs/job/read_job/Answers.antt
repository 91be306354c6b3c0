-- `drivers::job::read_job` meets its contract. Assumes nothing.
use Rattle.numbers.specs.declared.refusal.Fault.{Fault}
use Rattle.drivers.specs.declared.job.Job.{Job}
use Rattle.std.specs.Prelude.{Result}
use mathlib.Core.Path.{◌≡◌, refl, sym, ap, ◌∙◌}
use mathlib.Core.Bool.{true}
use mathlib.Core.List.{List}
use Prim.Native.Nat.{ℕ, ◌≤◌}
use lib.ListN.{length}
use lib.Ieee.{Float}
use Rattle.numbers.specs.declared.refusal.Refusal.{Refusal}
use Rattle.numbers.specs.Refusal.{◌⨾◌, At, Sound, Tests}
use Rattle.numbers.specs.laws.Pick.{is_hit}
use Rattle.numbers.specs.laws.Refusal.{gone}
use Rattle.drivers.specs.Job.{job_at, full_job_at, job_walk, full_job, job_fault, room_fault, read_into, read_job_answer}
use Rattle.drivers.specs.laws.Job.{n_to, rows_to, sound_job}
use Rattle.drivers.proofs.job.read_job.Goals as goal

module _ (bytes : List ℕ) (table xc mq : List Float) (fault : Tests) (e : fault ≡ job_fault bytes) where
  refused : (why : Refusal) (place : ℕ) → fault ≡ At why place → (At why place, table, xc, mq) ≡ read_job_answer bytes table xc mq
  unfolding read_job_answer
  refused why place d =
      let g = room_fault (full_job bytes).job (length table) (length xc) (length mq) in
      let h : (job_fault bytes ⨾ g) ≡ At why place = rw (← e, d) (is_hit true (At why place) g refl) in
      rw h refl

  read : fault ≡ Sound → (places : List ℕ) → places ≡ (job_walk bytes).1 → (r : Result Job Fault × List Float × List Float × List Float)
      → r ≡ read_into (full_job_at bytes places) Sound table xc mq → r ≡ read_job_answer bytes table xc mq
  unfolding read_job_answer
  read d places p r h = rw (← e, d, ← p) h

small : (bytes : List ℕ) (fault : Tests) → fault ≡ job_fault bytes → fault ≡ Sound → (places : List ℕ) → places ≡ (job_walk bytes).1
    → ((job_at bytes places).n ≤ 32) × ((job_at bytes places).rows ≤ 1024)
small bytes fault e d places p = let h = sound_job bytes (sym e ∙ d) in rw p (n_to _ h, rows_to _ h)

pub read_sound-requires : goal.read_sound-requires
read_sound-requires c =
    small _ _ c.job_fault.ensures.value c.in_ok-job_fault.was _ c.job_fault.ensures.places_after

pub returns : goal.returns
returns c =
    read _ _ _ _ _ c.job_fault.ensures.value c.in_ok-job_fault.was _ c.job_fault.ensures.places_after _ c.read_sound.ensures

pub returns-in_err-job_fault : goal.returns-in_err-job_fault
returns-in_err-job_fault c =
    let a = c.args in
    ap (λ (r : Result Job Fault). (r, a.table.now, a.xc.now, a.mq.now)) (gone c.from_residual.ensures.1 refl)
    ∙ refused _ _ _ _ _ c.job_fault.ensures.value _ _ c.in_err-job_fault.was
