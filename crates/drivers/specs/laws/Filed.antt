-- A job that was read is written with as many bytes as it was read from, is read again as the same job, and runs to the same text. Assumes nothing.
use Prim.Native.Nat.{ℕ, zero, suc, ◌+◌, ◌*◌, ◌<◌}
use Rattle.std.specs.Prelude.{◌≡◌, refl, Bool, true, false, leb, List, [], ◌∷◌, length}
use Rattle.std.proofs.Common.{sym, ap, ◌∙◌, arith, zero-mul, one-mul, add-mul, eqb-true, ne_eqb}
use Rattle.std.proofs.Math.Dec.{eqb}
use Rattle.std.proofs.lemmas.Bool.{not-true}
use Rattle.numbers.specs.Pick.{pick, some}
use Rattle.numbers.specs.Refusal.{◌⨾◌, unless, ask_at, Sound}
use Rattle.numbers.specs.declared.refusal.Refusal.TheVariants.{MissingTag, Room}
use Rattle.numbers.specs.laws.Pick.{is_hit, is_skip, some_false}
use Rattle.numbers.specs.laws.Refusal.{both_sound, ask_sound}
use Rattle.drivers.specs.Record.{index_at, no_places, place, is_missing, missing_fault, walk_of, record_fault, size_fault, lengths_fault, fields_of, rows_in, row_count}
use Rattle.drivers.specs.Rules.{rules, rule_at, repeats, rule_length, job_form, row_place, n_place, tags}
use Rattle.drivers.specs.Job.{FullJob, job_at, full_job_at, job_walk, full_job, job_fault}
use Rattle.drivers.specs.WriteJob.{job_bytes, job_size}
use Rattle.drivers.specs.Input.{longest, input_tests}
use Rattle.drivers.specs.Program.{job_text, program_text}
use Rattle.drivers.specs.Trace.{refused_text}
use Rattle.drivers.specs.declared.trace.Source.TheVariants.{Only}
use Rattle.drivers.specs.laws.OneField.{pow_one, pow_two, size_row}
use Rattle.drivers.specs.laws.Job.{oracle_fault, content_fault, JobSound, sound_job}
use Rattle.drivers.specs.laws.JobRuns.{FullLong, full_long}
use Rattle.drivers.specs.laws.JobBytes.{job_long}
use Rattle.drivers.specs.laws.JobAgain.{job_again, job_faultless}
use Rattle.drivers.specs.laws.Typed.{Typed, read_typed}
use Rattle.drivers.specs.laws.RecordLong.{size_of, many_by, unmet, walk_whole, bytes_of_fields, walk_bytes}

-- ---- how long a job's record is

-- only rows repeat
repeats_row : (i : ℕ) → repeats i ≡ eqb i row_place
unfolding rules rule_at
repeats_row zero = refl
repeats_row (suc zero) = refl
repeats_row (suc (suc zero)) = refl
repeats_row (suc (suc (suc zero))) = refl
repeats_row (suc (suc (suc (suc zero)))) = refl
repeats_row (suc (suc (suc (suc (suc zero))))) = refl
repeats_row (suc (suc (suc (suc (suc (suc zero)))))) = refl
repeats_row (suc (suc (suc (suc (suc (suc (suc zero))))))) = refl
repeats_row (suc (suc (suc (suc (suc (suc (suc (suc zero)))))))) = refl
repeats_row (suc (suc (suc (suc (suc (suc (suc (suc (suc zero))))))))) = refl
repeats_row (suc (suc (suc (suc (suc (suc (suc (suc (suc (suc zero)))))))))) = refl
repeats_row (suc (suc (suc (suc (suc (suc (suc (suc (suc (suc (suc zero))))))))))) = refl
repeats_row (suc (suc (suc (suc (suc (suc (suc (suc (suc (suc (suc (suc i)))))))))))) = sym (ne_eqb _ 3 (λ e. omega (arith, e)))

many_rows : (n : ℕ) (bytes ats : List ℕ) → many_by n bytes ats ≡ row_count bytes ats * (3 + 8 * n)
unfolding many_by row_count
many_rows n bytes [] = sym (zero-mul (3 + 8 * n))
many_rows n bytes (at ∷ rest) = omega (arith, one (repeats i) refl, many_rows n bytes rest, add-mul (rows_in bytes at) (row_count bytes rest) (3 + 8 * n))
  where
    i : ℕ
    i = index_at bytes at

    one : (t : Bool) → repeats i ≡ t → pick (repeats i) (size_of n i) 0 ≡ rows_in bytes at * (3 + 8 * n)
    one true e =
        let r : eqb i row_place ≡ true = sym (repeats_row i) ∙ e in
        let size : size_of n i ≡ 3 + 8 * n = ap (size_of n) (eqb-true i row_place r) ∙ ap (λ (k : ℕ). 3 + k) (size_row n) in
        is_hit (repeats i) (size_of n i) 0 e ∙ size ∙ sym (ap (λ (k : ℕ). k * (3 + 8 * n)) (is_hit (eqb i row_place) 1 0 r) ∙ one-mul (3 + 8 * n))
    one false e =
        let r : eqb i row_place ≡ false = sym (repeats_row i) ∙ e in
        is_skip (repeats i) (size_of n i) 0 e ∙ sym (ap (λ (k : ℕ). k * (3 + 8 * n)) (is_skip (eqb i row_place) 1 0 r) ∙ zero-mul (3 + 8 * n))

-- every tag has been met
none_unmet : (end n : ℕ) (places : List ℕ) → missing_fault end job_form places ≡ Sound → unmet job_form n places tags ≡ 0
unfolding missing_fault unmet rules rule_at
none_unmet end n places e =
    let none = not-true (some (is_missing job_form places) 0 tags) (ask_sound _ MissingTag end e) in
    let met : (k : ℕ) → k < tags → is_missing job_form places k ≡ false = λ k b. some_false (is_missing job_form places) 0 tags none k (omega arith) (omega (arith, b)) in
    let zero_at : (k : ℕ) → eqb (place places k) 0 ≡ false → pick (eqb (place places k) 0) (size_of n k) 0 ≡ 0 = λ k h. is_skip _ _ _ h in
    let off : (k : ℕ) → pick false (size_of n k) 0 ≡ 0 = λ k. is_skip false (size_of n k) 0 refl in
    omega (
      arith,
      zero_at 0 (met 0 (omega arith)),
      zero_at 1 (met 1 (omega arith)),
      zero_at 2 (met 2 (omega arith)),
      off 3,
      zero_at 4 (met 4 (omega arith)),
      zero_at 5 (met 5 (omega arith)),
      zero_at 6 (met 6 (omega arith)),
      zero_at 7 (met 7 (omega arith)),
      zero_at 8 (met 8 (omega arith)),
      off 9,
      off 10,
      off 11,
    )

-- and none at the start
all_unmet : (n : ℕ) → unmet job_form n no_places tags ≡ 78 + 8 * n + 8 * (n * n)
unfolding unmet rules rule_at rule_length pick
all_unmet n = omega (arith, pow_one n, pow_two n)

-- ---- a record without a fault

module _ (bytes : List ℕ) (e : job_fault bytes ≡ Sound) where
  abbrev read : FullJob
  read = full_job bytes

  sound : JobSound read.job
  unfolding full_job_at
  sound = sound_job bytes e

  long : FullLong read
  long = full_long bytes (job_walk bytes).1

  pub read_again : full_job (job_bytes read) ≡ read
  read_again = job_again read sound long (read_typed bytes)

  pub read_faultless : job_fault (job_bytes read) ≡ Sound
  read_faultless = job_faultless read sound long (read_typed bytes)

  pub record_long : length bytes ≡ job_size read.job.n read.job.rows
  unfolding job_fault record_fault fields_of full_job_at job_at
  record_long =
      let ats = fields_of bytes in
      let w = walk_of bytes job_form ats no_places in
      let places = w.1 in
      let j = read.job in
      let a = both_sound (job_walk bytes).0 (content_fault bytes places) e in
      let b = both_sound w.0 (missing_fault (length bytes) job_form places) a.0 in
      let c = both_sound (size_fault n_place 2 bytes (place places n_place)) (lengths_fault j.n bytes ats ⨾ oracle_fault j places) a.1 in
      let d = both_sound (lengths_fault j.n bytes ats) (oracle_fault j places) c.1 in
      let walked : w ≡ (Sound, places) = λ i. (b.0 i, places) in
      let whole = walk_whole bytes job_form ats no_places places walked in
      omega (
        arith,
        bytes_of_fields bytes j.n (length bytes) 0 (omega arith) (omega arith) whole d.0,
        walk_bytes bytes job_form j.n ats no_places places (omega arith) walked,
        none_unmet (length bytes) j.n places b.1,
        all_unmet j.n,
        many_rows j.n bytes ats,
      )

  -- A job of as many rows of as many numbers is written in as many bytes.
  pub filed_long : (g : FullJob) → FullLong g → g.job.n ≡ read.job.n → g.job.rows ≡ read.job.rows → length (job_bytes g) ≡ length bytes
  filed_long g l n rows = job_long g l ∙ (λ i. job_size (n i) (rows i)) ∙ sym record_long

  -- So it is taken by whoever took these.
  pub filed_taken : (g : FullJob) → JobSound g.job → (l : FullLong g) → Typed g → g.job.n ≡ read.job.n → g.job.rows ≡ read.job.rows
      → (input_tests (job_bytes g) ⨾ job_fault (job_bytes g)) ≡ (input_tests bytes ⨾ job_fault bytes)
  filed_taken g h l y n rows = λ i. ask_at longest (leb (filed_long g l n rows i) longest) Room ⨾ (job_faultless g h l y ∙ sym e) i

  -- `filterrun` prints the same of the job itself
  pub filed_prints : program_text (job_bytes read) ≡ program_text bytes
  unfolding program_text
  filed_prints = λ i. unless (filed_taken read sound long (read_typed bytes) refl refl i) (refused_text Only) (job_text (read_again i))
