-- Laws of Input: what a reader answers is what is taken, and slices that hold every job leave nothing of room to refuse. Assumes nothing.
use Rattle.numbers.specs.declared.refusal.Fault.{Fault}
use Rattle.drivers.specs.declared.answer.Answer.{Answer}
use Rattle.std.specs.Prelude.{ℕ, ◌*◌, ◌≤◌, ◌≡◌, refl, true, false, List, length, Float, Err, Ok, Result}
use Rattle.std.proofs.Common.{sym, ap, ◌∙◌, mul-le-mul, le-leb}
use Rattle.numbers.specs.Refusal.{◌⨾◌, unless, Sound, Tests}
use Rattle.numbers.specs.declared.refusal.Refusal.TheVariants.{Room}
use Rattle.numbers.specs.laws.Pick.{is_hit, is_skip}
use Rattle.numbers.specs.laws.Refusal.{held, at_next, unless_map}
use Rattle.drivers.specs.Record.{fronted}
use Rattle.drivers.specs.Job.{full_job_at, full_job, job_fault, has_room, room_fault, read_job_tests, read_job_answer}
use Rattle.drivers.specs.Answer.{answer_at, point_at, answer_walk, read_answer_tests, read_answer_answer}
use Rattle.drivers.specs.Trace.{refused_line_answer, Text}
use Rattle.drivers.specs.Input.{input_tests, with_slices, take_job_tests, job_refused, take_job_answer, answer_refused, take_answer_answer}
use Rattle.drivers.specs.laws.Job.{JobSound, n_to, rows_to, sound_job}
use Rattle.drivers.specs.declared.trace.Source.{Source}
use Rattle.drivers.specs.declared.trace.Source.TheVariants.{Answer as OfAnswer}
use Rattle.drivers.specs.declared.job.Job.{Job}

-- ---- what is taken, from what the reader answered

abbrev pub job_taken : Source → List ℕ → Result Job Fault → Result Job Text × List ℕ
job_taken source out (Ok j) = (Ok j, out)
job_taken source out (Err fault) = job_refused (refused_line_answer source fault.why fault.place out)

abbrev pub taken_read : Source → List ℕ → Result Job Fault × List Float × List Float × List Float → Result Job Text × List Float × List Float × List Float × List ℕ
taken_read source out j = with_slices j.1 j.2 j.3 (job_taken source out j.0)

pub take_job_is : (source : Source) (bytes : List ℕ) (table xc mq : List Float) (out : List ℕ) → Sound ≡ input_tests bytes
    → taken_read source out (read_job_answer bytes table xc mq) ≡ take_job_answer source bytes table xc mq out
unfolding read_job_answer take_job_answer
take_job_is source bytes table xc mq out e =
    let f = full_job bytes in
    unless_map (taken_read source out) (read_job_tests bytes table xc mq) _ _
    ∙ ap (λ (k : Tests). unless k (λ why place. with_slices table xc mq (job_refused (refused_line_answer source why place out))) (Ok f.job, fronted f.table table, fronted f.point xc, fronted f.matrix mq, out)) (at_next e refl)

abbrev pub answer_taken : List ℕ → Result Answer Fault × List Float → Result Answer Text × List Float × List ℕ
answer_taken out (Ok a, point) = (Ok a, point, out)
answer_taken out (Err fault, point) = answer_refused point (refused_line_answer OfAnswer fault.why fault.place out)

pub take_answer_is : (n : ℕ) (bytes : List ℕ) (point : List Float) (out : List ℕ) → Sound ≡ input_tests bytes
    → answer_taken out (read_answer_answer n bytes point) ≡ take_answer_answer n bytes point out
unfolding read_answer_answer take_answer_answer
take_answer_is n bytes point out e =
    let places = (answer_walk bytes).1 in
    unless_map (answer_taken out) (read_answer_tests n bytes (length point)) _ _
    ∙ ap (λ (f : Tests). unless f (λ why place. answer_refused point (refused_line_answer OfAnswer why place out)) (Ok (answer_at bytes places), fronted (point_at n bytes places) point, out)) (at_next e refl)

-- ---- with slices for 1,024 rows of 32 numbers there is room for every job

-- a test that holds where the others find nothing adds nothing
pub last_held : (f g : Tests) → (f ≡ Sound → Sound ≡ g) → (f ⨾ g) ≡ f
last_held Sound g h = is_skip false Sound g refl ∙ sym (h refl)
last_held (Err fault) g h = is_hit true (Err fault) g refl

-- a sound job fits into them
room_enough : (j : Job) → JobSound j → has_room j 32768 32 1024 ≡ true
room_enough j h =
    let n = n_to j h in
    let rows = rows_to j h in
    let t : j.rows * j.n ≤ 1024 * 32 = mul-le-mul rows n in
    let m : j.n * j.n ≤ 32 * 32 = mul-le-mul n n in
    rw (le-leb (j.rows * j.n) 32768 t, le-leb j.n 32 n, le-leb (j.n * j.n) 1024 m)

module _ (bytes : List ℕ) (table xc mq : List Float) (t : length table ≡ 32768) (x : length xc ≡ 32) (m : length mq ≡ 1024) where
  pub room_for_all : job_fault bytes ≡ Sound → has_room (full_job bytes).job (length table) (length xc) (length mq) ≡ true
  unfolding full_job_at
  room_for_all e = rw (t, x, m) (room_enough (full_job bytes).job (sound_job bytes e))

  -- so that only the record's own faults are left
  pub own_faults : take_job_tests bytes table xc mq ≡ (input_tests bytes ⨾ job_fault bytes)
  own_faults =
      ap (λ (f : Tests). input_tests bytes ⨾ f)
      (last_held (job_fault bytes) (room_fault (full_job bytes).job (length table) (length xc) (length mq)) (λ e. held Room 0 (room_for_all e)))
