-- The fields of a job, as a reader finds them: its walk takes them, and each tag's content stands at the place that is noted. Assumes nothing.
use Prim.Native.Nat.{ℕ, ◌+◌, ◌*◌, ◌≤◌, ◌<◌}
use Rattle.std.specs.Prelude.{◌≡◌, refl, false, eqb, List, [], ◌∷◌, ◌++◌, length, set}
use Rattle.std.proofs.Common.{sym, ap, ◌∙◌, arith, mul-le-mul, append_assoc}
use Rattle.numbers.specs.Pick.{pick, some}
use Rattle.numbers.specs.Bits.{le_bytes}
use Rattle.numbers.specs.Arr.{row_of}
use Rattle.numbers.specs.Refusal.{Sound}
use Rattle.numbers.specs.laws.Arr.{length_tab}
use Rattle.drivers.specs.Text.{joined}
use Rattle.drivers.specs.Fields.{Field, record_bytes, number_bytes, short_bytes}
use Rattle.drivers.specs.Record.{no_places, place, noted, missing_fault}
use Rattle.drivers.specs.Rules.{rules, rule_at, index_in, index_of, rule_length, job_form, n_place, bands_place, limits_place, row_place, point_place, cursors_place, kappa_place, matrix_place, settings_place, tags, n_tag, bands_tag, limits_tag, point_tag, cursors_tag, kappa_tag, matrix_tag, settings_tag}
use Rattle.drivers.specs.Job.{FullJob}
use Rattle.drivers.specs.WriteJob.{head_fields, row_field, row_fields, settings_bytes, tail_fields, job_fields, job_bytes}
use Rattle.drivers.specs.laws.OneField.{length_numbers, Writable, pow_one, pow_two}
use Rattle.drivers.specs.laws.Fields.{Each, AllOf, each_append, each_tab, Sized, walk_tags, walk_on, walk_all}
use Rattle.drivers.specs.laws.Written.{Without, Taken, There, is_there, there, all_met}
use Rattle.drivers.specs.laws.Job.{JobSound, n_to, rows_from}
use Rattle.drivers.specs.laws.JobRuns.{FullLong}
use Rattle.oracles.specs.laws.OracleAfter.{row_length}

-- where its walk notes that the contents begin
abbrev pub job_places : FullJob → List ℕ
job_places f = (walk_tags job_form 0 (job_fields f) no_places).1

abbrev pub Found : FullJob → ℕ → Field → Type 0
Found f i g = There (job_bytes f) (job_places f) i g

pub record AllFound (f : FullJob) : Type 0 where
  pub n_found : Found f n_place (n_tag, le_bytes 2 f.job.n)
  pub bands_found : Found f bands_place (bands_tag, short_bytes (f.job.nwpass ∷ f.job.nwstop ∷ []))
  pub limits_found : Found f limits_place (limits_tag, number_bytes (f.job.lp_sq ∷ f.job.up_sq ∷ f.job.sp_sq ∷ []))
  pub row_found : eqb (place (job_places f) row_place) 0 ≡ false
  pub point_found : Found f point_place (point_tag, number_bytes f.point)
  pub cursors_found : Found f cursors_place (cursors_tag, short_bytes (f.job.cur1 ∷ f.job.cur2 ∷ f.job.cur3 ∷ []))
  pub kappa_found : Found f kappa_place (kappa_tag, number_bytes (f.job.kappa ∷ []))
  pub matrix_found : Found f matrix_place (matrix_tag, number_bytes f.matrix)
  pub settings_found : Found f settings_place (settings_tag, settings_bytes f.job.options)

module _ (f : FullJob) (h : JobSound f.job) (l : FullLong f) where
  abbrev n : ℕ
  n = f.job.n

  abbrev head : List Field
  head = head_fields f.job

  abbrev rows : List Field
  rows = row_fields n f.table f.job.rows

  abbrev tail : List Field
  tail = tail_fields f.job f.point f.matrix

  row_size : (i : ℕ) → i < f.job.rows → length (number_bytes (row_of n f.table i)) ≡ 8 * n
  row_size i k = omega (arith, length_numbers (row_of n f.table i), row_length n f.job.rows f.table i l.table_is k)

  each : (P : Field → Type 0) → Each P head → ((i : ℕ) → i < f.job.rows → P (row_field n f.table i)) → Each P tail → Each P (job_fields f)
  each P a b c = each_append P (head ++ rows) tail (each_append P head rows a (each_tab P (row_field n f.table) f.job.rows b)) c

  -- ---- a reader's walk takes it

  n_most : n ≤ 32
  n_most = n_to f.job h

  square_most : n * n ≤ 32 * 32
  square_most = mul-le-mul n_most n_most

  -- tags of a byte, lengths of two
  pub writable : Each Writable (job_fields f)
  unfolding Each joined le_bytes
  writable =
      each Writable ((omega arith, omega arith), ((omega arith, omega arith), ((omega arith, omega arith), tt)))
      (λ i k. (omega arith, omega (arith, row_size i k, n_most))) (
        (omega arith, omega (arith, length_numbers f.point, l.point_is, n_most)),
        (
          (omega arith, omega arith),
          ((omega arith, omega arith), ((omega arith, omega (arith, length_numbers f.matrix, l.matrix_is, square_most)), ((omega arith, omega arith), tt))),
        ),
      )

  -- the lengths that the table asks
  pub sized : Each (Sized n) (job_fields f)
  unfolding Each joined le_bytes rule_length rule_at rules index_in index_of pick
  sized =
      each (Sized n) (omega arith, (omega arith, (omega arith, tt)))
      (λ i k. omega (arith, row_size i k, pow_one n))
      (omega (arith, length_numbers f.point, l.point_is, pow_one n), (omega arith, (omega arith, (omega (arith, length_numbers f.matrix, l.matrix_is, pow_two n), (omega arith, tt)))))

  -- where the contents of the first three begin
  abbrev head_places : List ℕ
  head_places = set (set (set no_places n_place 3) bands_place 8) limits_place 15

  head_walked : walk_tags job_form 0 head no_places ≡ (Sound, head_places)
  unfolding walk_tags joined le_bytes rules rule_at index_in index_of pick
  head_walked = refl

  tail_walked : (at : ℕ) → (walk_tags job_form at tail (noted head_places row_place 42)).0 ≡ Sound
  unfolding walk_tags joined le_bytes rules rule_at index_in index_of pick
  tail_walked at = refl

  rows_tagged : AllOf row_place rows
  unfolding rules index_in index_of pick
  rows_tagged = each_tab (λ f. index_of f.0 ≡ row_place) (row_field n f.table) f.job.rows (λ i k. refl)

  some_rows : 1 ≤ length rows
  some_rows = omega (arith, length_tab (row_field n f.table) f.job.rows, rows_from f.job h)

  pub walked : (walk_tags job_form 0 (job_fields f) no_places).0 ≡ Sound
  unfolding joined le_bytes rules rule_at
  walked =
      let two = walk_on job_form head rows 0 no_places head_places head_walked ∙ walk_all job_form row_place rows 39 head_places refl refl (omega arith) refl rows_tagged some_rows in
      ap (λ z. z.0) (walk_on job_form (head ++ rows) tail 0 no_places (noted head_places row_place 42) two) ∙ tail_walked (0 + length (record_bytes (head ++ rows)))

  -- ---- what it finds

  -- a field of the head, and one of the tail, between others of it
  module _ (i : ℕ) (b : i < tags) (before : List Field) (g : Field) (behind : List Field) (none_before : Without i before) (is : index_of g.0 ≡ i) where
    head_there : head ≡ before ++ g ∷ behind → Found f i g
    head_there s =
        let e : job_fields f ≡ before ++ g ∷ (behind ++ (rows ++ tail)) =
        ap (λ (l : List Field). l ++ rows ++ tail) s ∙ append_assoc (before ++ g ∷ behind) rows tail ∙ append_assoc before (g ∷ behind) (rows ++ tail) in
        there job_form (job_fields f) writable walked i b before g _ e none_before is

    tail_there : tail ≡ before ++ g ∷ behind → Without i head → eqb row_place i ≡ false → Found f i g
    unfolding rules index_in index_of pick
    tail_there s none_head no_row =
        let P : Field → Type 0 = λ f. eqb (index_of f.0) i ≡ false in
        let e : job_fields f ≡ head ++ rows ++ before ++ g ∷ behind = ap (λ (l : List Field). head ++ rows ++ l) s ∙ sym (append_assoc (head ++ rows) before (g ∷ behind)) in
        let none = each_append P (head ++ rows) before (each_append P head rows none_head (each_tab P (row_field n f.table) f.job.rows (λ k l. no_row))) none_before in
        there job_form (job_fields f) writable walked i b (head ++ rows ++ before) g behind e none is

  pub all_found : AllFound f
  unfolding Each rules index_in index_of pick
  all_found =
      record {
        n_found = head_there n_place (omega arith) [] _ _ tt refl refl;
        bands_found = head_there bands_place (omega arith) (_ ∷ []) _ _ (refl, tt) refl refl;
        limits_found = head_there limits_place (omega arith) (_ ∷ _ ∷ []) _ [] (refl, (refl, tt)) refl refl;
        row_found = all_met job_form (job_fields f) writable walked row_place (omega arith) head rows tail refl (refl, (refl, (refl, tt))) rows_tagged some_rows;
        point_found = tail_there point_place (omega arith) [] _ _ tt refl refl (refl, (refl, (refl, tt))) refl;
        cursors_found = tail_there cursors_place (omega arith) (_ ∷ []) _ _ (refl, tt) refl refl (refl, (refl, (refl, tt))) refl;
        kappa_found = tail_there kappa_place (omega arith) (_ ∷ _ ∷ []) _ _ (refl, (refl, tt)) refl refl (refl, (refl, (refl, tt))) refl;
        matrix_found = tail_there matrix_place (omega arith) (_ ∷ _ ∷ _ ∷ []) _ _ (refl, (refl, (refl, tt))) refl refl (refl, (refl, (refl, tt))) refl;
        settings_found = tail_there settings_place (omega arith) (_ ∷ _ ∷ _ ∷ _ ∷ []) _ [] (refl, (refl, (refl, (refl, tt)))) refl refl (refl, (refl, (refl, tt))) refl;
      }

  -- so no tag is missing
  none_missing : missing_fault (length (job_bytes f)) job_form (job_places f) ≡ Sound
  unfolding missing_fault some rules rule_at pick
  none_missing =
      let a = all_found in
      rw (
        is_there a.n_found,
        is_there a.bands_found,
        is_there a.limits_found,
        a.row_found,
        is_there a.point_found,
        is_there a.cursors_found,
        is_there a.kappa_found,
        is_there a.matrix_found,
        is_there a.settings_found,
      ) refl

  pub taken : Taken job_form n (job_fields f)
  taken = record { writable = writable; sized = sized; walked = walked; none_missing = none_missing }
