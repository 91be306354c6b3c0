-- What `take_job` and `take_answer` took, where the slices hold every job and every line: the record, or the line of its own first fault. Assumes nothing.
use Rattle.std.specs.Prelude.{ℕ, ◌*◌, ◌≤◌, length, Option, Some, None, Err, Ok, Result}
use Rattle.std.proofs.Math.Path.{◌≡◌, refl, ap, subst}
use Rattle.std.proofs.Common.{sym, ◌∙◌, arith, le-leb}
use mathlib.Core.List.{List, []}
use native.Mathlib.Nat.{mul-le-mul}
use Rattle.std.specs.Float.Ieee.{Float}
use Rattle.numbers.specs.Refusal.{◌⨾◌, unless, Sound, Tests}
use Rattle.numbers.specs.laws.Arr.{length_tab}
use Rattle.numbers.specs.laws.Pick.{by_test}
use Rattle.numbers.specs.laws.Refusal.{held, both_sound, accepts}
use Rattle.numbers.specs.declared.refusal.Refusal.TheVariants.{Room}
use Rattle.streams.specs.Output.{Hands}
use Rattle.streams.specs.declared.output.Stream.TheVariants.{Stdout, Stderr}
use Rattle.streams.specs.declared.output.Console.{Console}
use Rattle.streams.specs.declared.sink.Sink.{Ghosts}
use Rattle.drivers.specs.Record.{fronted, numbers_at, number_at, place}
use Rattle.drivers.specs.Rules.{found_place}
use Rattle.drivers.specs.Job.{full_job, job_fault}
use Rattle.drivers.specs.Answer.{answer_at, point_at, has_point, answer_walk, answer_fault, point_room}
use Rattle.drivers.specs.Trace.{refused_text, printed, refused_line_answer, Text, text_in}
use Rattle.drivers.specs.Input.{input_tests, with_slices, job_refused, take_job_tests, take_job_answer, answer_refused, take_answer_tests, take_answer_answer}
use Rattle.drivers.specs.laws.Input.{own_faults, last_held}
use Rattle.drivers.specs.laws.Job.{JobSound, n_to, rows_to}
use Rattle.drivers.specs.laws.JobRuns.{JobHeld, tests_held}
use Rattle.drivers.specs.laws.Program.{printed_front}
use Rattle.drivers.specs.declared.answer.Answer.{Answer}
use Rattle.drivers.specs.declared.job.Job.{Job}
use Rattle.drivers.specs.declared.trace.Source.{Source}
use Rattle.drivers.specs.declared.trace.Source.TheVariants.{Answer as OfAnswer}
use Rattle.runner.specs.declared.buffers.Buffers.{Buffers}
use Rattle.commands.specs.declared.sound_job.SoundJob.{SoundJob}
use Rattle.commands.specs.Output.{Written, refusal_written, Writes}

-- ---- a job

module _ (source : Source) (bytes : List ℕ) (table xc mq : List Float) (out : List ℕ) where
  abbrev job_done : Result Job Text × List Float × List Float × List Float × List ℕ
  job_done = let f = full_job bytes in (Ok f.job, fronted f.table table, fronted f.point xc, fronted f.matrix mq, out)

  -- what was taken is the record's, and it has no fault
  pub record JobIs (j : Job) (table' xc' mq' : List Float) (out' : List ℕ) : Type 0 where
    pub tests : take_job_tests bytes table xc mq ≡ Sound
    pub job_is : j ≡ (full_job bytes).job
    pub table_is : table' ≡ fronted (full_job bytes).table table
    pub xc_is : xc' ≡ fronted (full_job bytes).point xc
    pub mq_is : mq' ≡ fronted (full_job bytes).matrix mq
    pub out_is : out' ≡ out

  pub job_taken_is : (j : Job) (table' xc' mq' : List Float) (out' : List ℕ) → (Ok j, table', xc', mq', out') ≡ take_job_answer source bytes table xc mq out → JobIs j table' xc' mq' out'
  unfolding take_job_answer
  job_taken_is j table' xc' mq' out' = go (take_job_tests bytes table xc mq) refl
    where
      go : (fault : Tests) → take_job_tests bytes table xc mq ≡ fault
          → ◌≡◌ {A = (Result Job Text) × List Float × List Float × List Float × List ℕ} (Ok j, table', xc', mq', out')
          (unless fault (λ why place. with_slices table xc mq (job_refused (refused_line_answer source why place out))) job_done)
          → JobIs j table' xc' mq' out'
      go Sound s e =
          let e₀ : Ok j ≡ Ok (full_job bytes).job = ap (λ z. z.0) e in
          record { tests = s; job_is = cc; table_is = ap (λ z. z.1) e; xc_is = ap (λ z. z.2) e; mq_is = ap (λ z. z.3) e; out_is = ap (λ z. z.4) e }
      go (Err fault) s e =
          let e₀ : Ok j ≡ Err (refused_line_answer source fault.why fault.place out).0 = ap (λ z. z.0) e in
          absurd (let z : ◌≡◌ {A = ℕ} 0 1 = cc in omega arith)

  module _ (t : length table ≡ 32768) (x : length xc ≡ 32) (m : length mq ≡ 1024) where
    -- so a command goes on with it
    pub goes_on : {j : Job} {table' xc' mq' : List Float} {out' : List ℕ} → JobIs j table' xc' mq' out' → (done : Written) → done ≡ unless (input_tests bytes ⨾ job_fault bytes) (refusal_written source) done
    goes_on is done = accepts _ _ (input_tests bytes ⨾ job_fault bytes) (sym is.tests ∙ own_faults bytes table xc mq t x m) refl

    -- else the line is that of its fault
    pub job_refused_is : 128 ≤ length out → (text : Text) (table' xc' mq' : List Float) (out' : List ℕ) → (Err text, table', xc', mq', out') ≡ take_job_answer source bytes table xc mq out
        → (done : Written) → (Stderr, text_in text out') ≡ unless (input_tests bytes ⨾ job_fault bytes) (refusal_written source) done
    unfolding take_job_answer
    job_refused_is room text table' xc' mq' out' e done = subst (λ (f : Tests). (Stderr, text_in text out') ≡ unless f (refusal_written source) done) (own_faults bytes table xc mq t x m) (go (take_job_tests bytes table xc mq) e)
      where
        go : (fault : Tests) → ◌≡◌ {A = (Result Job Text) × List Float × List Float × List Float × List ℕ} (Err text, table', xc', mq', out')
            (unless fault (λ why place. with_slices table xc mq (job_refused (refused_line_answer source why place out))) job_done)
            → (Stderr, text_in text out') ≡ unless fault (refusal_written source) done
        go Sound e =
            let e₀ : Err text ≡ Ok (full_job bytes).job = ap (λ z. z.0) e in
            absurd (let z : ◌≡◌ {A = ℕ} 0 1 = cc in omega arith)
        go (Err fault) e =
            let line = refused_text source fault.why fault.place in
            let e₀ : Err text ≡ Err (printed line out).0 = ap (λ z. z.0) e in
            let e₁ : text ≡ (printed line out).0 = cc in
            let e₂ : out' ≡ (printed line out).1 = ap (λ z. z.4) e in
            ap (λ (l : List ℕ). (Stderr, l)) ((λ i. text_in (e₁ i) (e₂ i)) ∙ printed_front line out room)

-- the answer of `take_job`, once a branch knows which it is
pub as_taken : {t u : (Result Job Text)} {table xc mq : List Float} {out : List ℕ} {r : Result Job Text × List Float × List Float × List Float × List ℕ} → (t, table, xc, mq, out) ≡ r → t ≡ u → (u, table, xc, mq, out) ≡ r
as_taken {table = table} {xc = xc} {mq = mq} {out = out} e h = ap (λ (t : (Result Job Text)). (t, table, xc, mq, out)) (sym h) ∙ e

-- a taken job can be run, and its numbers stand at the fronts of the slices
pub taken_held : (source : Source) (bytes : List ℕ) (table xc mq : List Float) (out : List ℕ) (j : Job) (table' xc' mq' : List Float) (out' : List ℕ)
    → JobIs source bytes table xc mq out j table' xc' mq' out' → JobSound j × JobHeld j table' xc' mq'
taken_held source bytes table xc mq out j table' xc' mq' out' is =
    rw (is.job_is, is.table_is, is.xc_is, is.mq_is) (tests_held bytes table xc mq (both_sound (input_tests bytes) _ is.tests).1)

-- so do the arrays of every program hold it
pub sound_held : (j : Job) → JobSound j → (table xc mq : List Float) → length table ≡ 32768 → length xc ≡ 32 → length mq ≡ 1024 → JobHeld j table xc mq
sound_held j h table xc mq t x m =
    let a : j.rows * j.n ≤ 1024 * 32 = mul-le-mul (rows_to j h) (n_to j h) in
    let b : j.n * j.n ≤ 32 * 32 = mul-le-mul (n_to j h) (n_to j h) in
    record { table_long = omega (arith, t); xc_long = omega (arith, x, n_to j h); mq_long = omega (arith, m) }

-- ---- an answer, with room for every point

module _ (n : ℕ) (bytes : List ℕ) (point : List Float) (out : List ℕ) where
  abbrev answer_done : Result Answer Text × List Float × List ℕ
  answer_done = let places = (answer_walk bytes).1 in (Ok (answer_at bytes places), fronted (point_at n bytes places) point, out)

  pub record AnswerIs (a : Answer) (point' : List Float) (out' : List ℕ) : Type 0 where
    pub tests : take_answer_tests n bytes point ≡ Sound
    pub answer_is : a ≡ answer_at bytes (answer_walk bytes).1
    pub point_is : point' ≡ fronted (point_at n bytes (answer_walk bytes).1) point
    pub out_is : out' ≡ out

  pub answer_taken_is : (a : Answer) (point' : List Float) (out' : List ℕ) → (Ok a, point', out') ≡ take_answer_answer n bytes point out → AnswerIs a point' out'
  unfolding take_answer_answer
  answer_taken_is a point' out' = go (take_answer_tests n bytes point) refl
    where
      go : (fault : Tests) → take_answer_tests n bytes point ≡ fault
          → ◌≡◌ {A = (Result Answer Text) × List Float × List ℕ} (Ok a, point', out') (unless fault (λ why place. answer_refused point (refused_line_answer OfAnswer why place out)) answer_done)
          → AnswerIs a point' out'
      go Sound s e =
          let e₀ : Ok a ≡ Ok (answer_at bytes (answer_walk bytes).1) = ap (λ z. z.0) e in
          record { tests = s; answer_is = cc; point_is = ap (λ z. z.1) e; out_is = ap (λ z. z.2) e }
      go (Err fault) s e =
          let e₀ : Ok a ≡ Err (refused_line_answer OfAnswer fault.why fault.place out).0 = ap (λ z. z.0) e in
          absurd (let z : ◌≡◌ {A = ℕ} 0 1 = cc in omega arith)

  module _ (h : n ≤ length point) where
    point_short : length (point_at n bytes (answer_walk bytes).1) ≤ length point
    point_short =
        let places = (answer_walk bytes).1 in
        by_test (λ (p : List Float). length p ≤ length point) (has_point places) (numbers_at bytes (place places found_place) n) []
        (λ _. omega (arith, h, length_tab (λ k. number_at bytes (place places found_place) k) n)) (λ _. omega arith)

    own : take_answer_tests n bytes point ≡ (input_tests bytes ⨾ answer_fault n bytes)
    own =
        ap (λ (f : Tests). input_tests bytes ⨾ f)
        (last_held (answer_fault n bytes) (point_room (point_at n bytes (answer_walk bytes).1) (length point)) (λ e. held Room 0 (le-leb _ (length point) point_short)))

    pub judges : {a : Answer} {point' : List Float} {out' : List ℕ} → AnswerIs a point' out' → (done : Written) → done ≡ unless (input_tests bytes ⨾ answer_fault n bytes) (refusal_written OfAnswer) done
    judges is done = accepts _ _ (input_tests bytes ⨾ answer_fault n bytes) (sym is.tests ∙ own) refl

    pub answer_refused_is : 128 ≤ length out → (text : Text) (point' : List Float) (out' : List ℕ) → (Err text, point', out') ≡ take_answer_answer n bytes point out
        → (done : Written) → (Stderr, text_in text out') ≡ unless (input_tests bytes ⨾ answer_fault n bytes) (refusal_written OfAnswer) done
    unfolding take_answer_answer
    answer_refused_is room text point' out' e done = subst (λ (f : Tests). (Stderr, text_in text out') ≡ unless f (refusal_written OfAnswer) done) own (go (take_answer_tests n bytes point) e)
      where
        go : (fault : Tests) → ◌≡◌ {A = (Result Answer Text) × List Float × List ℕ} (Err text, point', out') (unless fault (λ why place. answer_refused point (refused_line_answer OfAnswer why place out)) answer_done)
            → (Stderr, text_in text out') ≡ unless fault (refusal_written OfAnswer) done
        go Sound e =
            let e₀ : Err text ≡ Ok (answer_at bytes (answer_walk bytes).1) = ap (λ z. z.0) e in
            absurd (let z : ◌≡◌ {A = ℕ} 0 1 = cc in omega arith)
        go (Err fault) e =
            let line = refused_text OfAnswer fault.why fault.place in
            let e₀ : Err text ≡ Err (printed line out).0 = ap (λ z. z.0) e in
            let e₁ : text ≡ (printed line out).0 = cc in
            let e₂ : out' ≡ (printed line out).1 = ap (λ z. z.2) e in
            ap (λ (l : List ℕ). (Stderr, l)) ((λ i. text_in (e₁ i) (e₂ i)) ∙ printed_front line out room)

pub as_answer : {t u : (Result Answer Text)} {point : List Float} {out : List ℕ} {r : Result Answer Text × List Float × List ℕ} → (t, point, out) ≡ r → t ≡ u → (u, point, out) ≡ r
as_answer {point = point} {out = out} e h = ap (λ (t : (Result Answer Text)). (t, point, out)) (sym h) ∙ e

-- ---- a job, or its refusal

-- a job, and nothing is handed over; or the line that refuses it, whatever a command would have done
abbrev pub Took : {W E : Type 0} → Ghosts W → Console W E → Console W E → Source → List ℕ → Buffers → Buffers → Option SoundJob → Type 0
Took sink before after source bytes b b' (Some taken) = Hands sink before after Stdout [] × JobIs source bytes b.table b.xc b.mq b.out taken.job b'.table b'.xc b'.mq b'.out
    × (length b.table ≡ 32768) × (length b.xc ≡ 32) × (length b.mq ≡ 1024)
Took sink before after source bytes b b' None = (done : Written) → Writes sink before after (unless (input_tests bytes ⨾ job_fault bytes) (refusal_written source) done)
