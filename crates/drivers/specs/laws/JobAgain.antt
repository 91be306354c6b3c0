-- A job that is written and read again is the same job. Assumes nothing.
use Prim.Native.Nat.{ℕ, zero, suc, ◌+◌, ◌*◌, ◌≤◌, ◌<◌}
use Rattle.std.specs.Prelude.{◌≡◌, refl, leb, List, [], ◌∷◌, ◌++◌, length, drop, take, get_or, pos, T, Float, Ok}
use Rattle.std.specs.Float.{nan, binary64}
use Rattle.std.specs.Float.Ieee.{fits}
use Rattle.std.proofs.Common.{sym, ap, subst, ◌∙◌, arith, zero-mul, suc-mul, append_assoc, append-nil, take_all, eq-eqb}
use Rattle.std.proofs.Math.Seq.{take-add}
use Rattle.std.proofs.lemmas.List.{get_or-take, get_or-drop}
use Rattle.numbers.specs.Pick.{pick}
use Rattle.numbers.specs.Bits.{le_bytes, word_at}
use Rattle.numbers.specs.Arr.{is_dimension, tab, row_of}
use Rattle.numbers.specs.Refusal.{◌⨾◌, ask, Sound, Tests}
use Rattle.numbers.specs.laws.Arr.{row_in}
use Rattle.numbers.specs.laws.Bits.{word_low}
use Rattle.numbers.specs.laws.Pick.{and_parts}
use Rattle.numbers.specs.laws.Refusal.{held, at_next, both_sound}
use Rattle.numbers.specs.Over.{over}
use Rattle.numbers.specs.declared.refusal.Refusal.TheVariants.{Room}
use Rattle.drivers.specs.Text.{joined}
use Rattle.drivers.specs.Fields.{number_bytes}
use Rattle.drivers.specs.Record.{half_at, number_at, numbers_at, place, fields_of, row_count, rows_of, length_at, start_of, size_fault, lengths_fault}
use Rattle.drivers.specs.Rules.{rules, rule_at, index_in, index_of, rule_length, job_form, n_place, bands_place, limits_place, point_place, cursors_place, kappa_place, matrix_place, settings_place, limits_tag, point_tag, kappa_tag, matrix_tag}
use Rattle.drivers.specs.Job.{FullJob, row_end, job_oracle, signed, options_of, job_at, full_job_at, full_job, job_fault, read_into, read_job_answer}
use Rattle.drivers.specs.WriteJob.{head_fields, row_field, row_fields, tail_fields, job_fields, job_bytes, job_size, numbers_fit, write_job_tests, write_job_answer}
use Rattle.drivers.specs.laws.OneField.{AllF64, numbers_read}
use Rattle.drivers.specs.laws.Fields.{count_rows, all_rows, count_append, rows_append, rows_written}
use Rattle.drivers.specs.laws.Written.{wrote, start_is, content_there, walk_taken, lengths_taken}
use Rattle.drivers.specs.laws.Typed.{Typed}
use Rattle.drivers.specs.laws.JobBytes.{job_long, numbers_long}
use Rattle.drivers.specs.laws.JobFields.{job_places, Found, AllFound, writable, sized, all_found, taken}
use Rattle.drivers.specs.laws.Shorts.{two_read, three_read, Short, Count, count_of, count_between, count_short, short_cur}
use Rattle.drivers.specs.laws.Job.{oracle_fault, JobSound, job_bands, n_to, row_end_is}
use Rattle.drivers.specs.laws.JobRuns.{FullLong}
use Rattle.drivers.specs.declared.job.Job.{Job}
use Rattle.oracles.specs.RoundRobin.{is_at}
use Rattle.oracles.specs.LowpassOracle.{start_oracle, bands_fit, cursors_fit, oracle_tests}
use Rattle.oracles.specs.laws.Bands.{three_bands}
use Rattle.oracles.specs.laws.ScanRows.{all_hold}
use Rattle.oracles.specs.laws.OracleAfter.{row_length}

module _ (f : FullJob) (h : JobSound f.job) (l : FullLong f) where
  abbrev n : ℕ
  n = f.job.n

  abbrev bytes : List ℕ
  bytes = job_bytes f

  abbrev places : List ℕ
  places = job_places f

  abbrev a : AllFound f
  a = all_found f h l

  -- the ends of the bands, and the cursors, are numbers of 16 bits
  record Shorts : Type 0 where
    nwpass_count : Count f.job.nwpass
    nwstop_count : Count f.job.nwstop
    cur1_short : Short f.job.cur1
    cur2_short : Short f.job.cur2
    cur3_short : Short f.job.cur3

  shorts : Shorts
  unfolding start_oracle
  shorts =
      let j = f.job in
      let o = job_oracle j in
      let p = job_bands j h in
      let t = three_bands j.nwpass j.nwstop j.rows p.most p.from p.between p.to in
      let pass : Count j.nwpass = count_between (pos 0) j.nwpass j.nwstop t.0 t.1 in
      let stop : Count j.nwstop = count_between j.nwpass j.nwstop (pos j.rows) t.1 t.2 in
      let end : Count (row_end j.rows) = subst Count (sym (row_end_is j h)) (count_of j.rows p.most) in
      let c₃ = and_parts _ (is_at o.rr3) h.cursors in
      let c₂ = and_parts (is_at o.rr1) (is_at o.rr2) c₃.0 in
      record {
        nwpass_count = pass;
        nwstop_count = stop;
        cur1_short = short_cur j.cur1 (pos 0) j.nwpass (count_of 0 (omega arith)) pass c₂.0;
        cur2_short = short_cur j.cur2 j.nwpass j.nwstop pass stop c₂.1;
        cur3_short = short_cur j.cur3 j.nwstop (row_end j.rows) stop end c₃.1;
      }

  -- how many rows
  counted : (k : ℕ) → count_rows (row_fields n f.table k) ≡ k
  unfolding tab count_rows rules index_in index_of pick
  counted zero = refl
  counted (suc k) = count_append (row_fields n f.table k) (row_field n f.table k ∷ []) ∙ omega (arith, counted k)

  count_is : row_count bytes (fields_of bytes) ≡ f.job.rows
  unfolding count_rows rules index_in index_of pick
  count_is =
      let head = head_fields f.job in
      let rows = row_fields n f.table f.job.rows in
      (rows_written (job_fields f) (writable f h l) n (sized f h l)).0
      ∙ omega (arith, count_append (head ++ rows) (tail_fields f.job f.point f.matrix), count_append head rows, counted f.job.rows)

  n_is : half_at bytes (place places n_place) ≡ n
  unfolding le_bytes
  n_is = let t = a.n_found in word_low bytes (place places n_place) 2 n t.rest (omega arith) (omega (arith, n_to f.job h)) (content_there t)

  -- tag 01 has its length, and n its range
  size_held : Sound ≡ size_fault n_place 2 bytes (place places n_place)
  unfolding size_fault rule_length rule_at rules le_bytes
  size_held =
      let t = a.n_found in
      let long : length_at bytes (start_of (place places n_place)) ≡ 2 = ap (length_at bytes) (start_is t) ∙ t.stands.length_is in
      at_next (held _ _ (eq-eqb _ _ long)) (held _ _ (ap is_dimension n_is ∙ h.dimension))

  module _ (y : Typed f) where
    numbers_is : (i tag : ℕ) (xs : List Float) → Found f i (tag, number_bytes xs) → AllF64 xs → numbers_at bytes (place places i) (length xs) ≡ xs
    numbers_is i tag xs t h = numbers_read bytes (place places i) xs t.rest h (content_there t)

    -- the rows before row k
    rows_is : (k : ℕ) → k ≤ f.job.rows → all_rows n (row_fields n f.table k) ≡ take (k * n) f.table
    unfolding tab all_rows rules index_in index_of pick
    rows_is zero m = ap (λ (j : ℕ). take j f.table) (sym (zero-mul n))
    rows_is (suc k) m =
        let row = row_of n f.table k in
        let long : length row ≡ n = row_length n f.job.rows f.table k l.table_is m in
        let inside : k * n + n ≤ length f.table = omega (arith, l.table_is, row_in n k f.job.rows m) in
        let f64 : AllF64 row = λ i b. let q : i < n = omega (arith, b, long) in
        subst (λ (x : Float). T (fits binary64 x)) (sym (get_or-take n (drop (k * n) f.table) i nan q ∙ get_or-drop (k * n) f.table i nan)) (y.table (k * n + i) (omega (arith, q, inside))) in
        let one : numbers_at (number_bytes row) 0 n ≡ row =
        ap (numbers_at (number_bytes row) 0) (sym long) ∙ numbers_read (number_bytes row) 0 row [] f64 (sym (append-nil (number_bytes row))) in
        rows_append n (row_fields n f.table k) (row_field n f.table k ∷ [])
        ∙ (λ i. rows_is k (omega (arith, m)) i ++ append-nil (one i) i) ∙ sym (take-add (k * n) n f.table) ∙ ap (λ (j : ℕ). take j f.table) (omega (arith, suc-mul k n))

    table_is : rows_of n bytes (fields_of bytes) ≡ f.table
    unfolding all_rows rules index_in index_of pick
    table_is =
        let head = head_fields f.job in
        let r = row_fields n f.table f.job.rows in
        let tail = tail_fields f.job f.point f.matrix in
        (rows_written (job_fields f) (writable f h l) n (sized f h l)).1 ∙ rows_append n (head ++ r) tail ∙ append-nil (all_rows n (head ++ r)) ∙ rows_append n head r
        ∙ rows_is f.job.rows (omega arith) ∙ take_all (f.job.rows * n) f.table (omega (arith, l.table_is))

    options_is : options_of bytes (place places settings_place) ≡ f.job.options
    unfolding options_of number_at word_at tab le_bytes
    options_is =
        let o = f.job.options in
        let t = a.settings_found in
        let c = drop (place places settings_place) bytes in
        let e : c ≡ le_bytes 2 o.max_iters ++ (number_bytes (o.tolerance ∷ []) ++ t.rest) = content_there t ∙ append_assoc (le_bytes 2 o.max_iters) (number_bytes (o.tolerance ∷ [])) t.rest in
        let m : half_at c 0 ≡ o.max_iters = word_low c 0 2 o.max_iters (number_bytes (o.tolerance ∷ []) ++ t.rest) (omega arith) y.max_iters e in
        let d : number_at c 2 0 ≡ o.tolerance = ap (λ (xs : List Float). get_or xs 0 nan) (numbers_read c 2 (o.tolerance ∷ []) t.rest y.tolerance (ap (drop 2) e)) in
        λ i. record { max_iters = m i; tolerance = d i }

    job_is : job_at bytes places ≡ f.job
    unfolding job_at number_at tab joined le_bytes
    job_is =
        let j = f.job in
        let w = shorts in
        let p = count_short j.nwpass w.nwpass_count in
        let s = count_short j.nwstop w.nwstop_count in
        let b = two_read bytes (place places bands_place) a.bands_found.rest j.nwpass j.nwstop p.0 s.0 (content_there a.bands_found) in
        let k = three_read bytes (place places cursors_place) a.cursors_found.rest j.cur1 j.cur2 j.cur3 w.cur1_short.small w.cur2_short.small w.cur3_short.small (content_there a.cursors_found) in
        let x = numbers_is limits_place limits_tag (j.lp_sq ∷ j.up_sq ∷ j.sp_sq ∷ []) a.limits_found y.limits in
        let kappa : number_at bytes (place places kappa_place) 0 ≡ j.kappa = ap (λ (xs : List Float). get_or xs 0 nan) (numbers_is kappa_place kappa_tag (j.kappa ∷ []) a.kappa_found y.kappa) in
        let nwpass = ap pos b.0 ∙ p.1 in
        let nwstop = ap pos b.1 ∙ s.1 in
        let cur1 = ap signed k.0 ∙ w.cur1_short.again in
        let cur2 = ap signed k.1 ∙ w.cur2_short.again in
        let cur3 = ap signed k.2 ∙ w.cur3_short.again in
        λ i. record {
          n = n_is i;
          rows = count_is i;
          nwpass = nwpass i;
          nwstop = nwstop i;
          lp_sq = get_or (x i) 0 nan;
          up_sq = get_or (x i) 1 nan;
          sp_sq = get_or (x i) 2 nan;
          cur1 = cur1 i;
          cur2 = cur2 i;
          cur3 = cur3 i;
          kappa = kappa i;
          options = options_is i;
        }

    -- with its numbers
    full_is : full_job_at bytes places ≡ f
    unfolding full_job_at
    full_is =
        let at_point : ℕ → List Float = numbers_at bytes (place places point_place) in
        let at_matrix : ℕ → List Float = numbers_at bytes (place places matrix_place) in
        let point : at_point n ≡ f.point = ap at_point (sym l.point_is) ∙ numbers_is point_place point_tag f.point a.point_found y.point in
        let matrix : at_matrix (n * n) ≡ f.matrix = ap at_matrix (sym l.matrix_is) ∙ numbers_is matrix_place matrix_tag f.matrix a.matrix_found y.matrix in
        ap read_as job_is ∙ (λ i. record { job = f.job; table = table_is i; point = point i; matrix = matrix i })
      where
        read_as : Job → FullJob
        read_as j = record {
          job = j;
          table = rows_of j.n bytes (fields_of bytes);
          point = numbers_at bytes (place places point_place) j.n;
          matrix = numbers_at bytes (place places matrix_place) (j.n * j.n);
        }

    -- What was written is read as the job.
    pub job_again : full_job bytes ≡ f
    job_again = ap (λ (r : Tests × List ℕ). full_job_at bytes r.1) (walk_taken job_form n (job_fields f) (taken f h l)) ∙ full_is

    -- And nothing is at fault in it.
    pub job_faultless : job_fault bytes ≡ Sound
    unfolding job_fault
    job_faultless =
        ap fault_of (walk_taken job_form n (job_fields f) (taken f h l)) ∙ ap fault_by job_is
        ∙ sym (at_next refl (at_next size_held (at_next (sym (lengths_taken job_form n (job_fields f) (taken f h l))) (at_next (held _ _ h.bands) (held _ _ h.cursors)))))
      where
        -- the tests behind a walk, and those of a job behind its places
        fault_by : Job → Tests
        fault_by j = Sound ⨾ size_fault n_place 2 bytes (place places n_place) ⨾ lengths_fault j.n bytes (fields_of bytes) ⨾ oracle_fault j places

        fault_of : Tests × List ℕ → Tests
        fault_of r = r.0 ⨾ size_fault n_place 2 bytes (place r.1 n_place) ⨾ lengths_fault (job_at bytes r.1).n bytes (fields_of bytes) ⨾ oracle_fault (job_at bytes r.1) r.1

-- ---- the theorems on `write_job`

-- what it has written at the front of an output, k bytes, is a sound job's record
pub record JobWritten (f : FullJob) (k : ℕ) (out' : List ℕ) : Type 0 where
  pub sound : JobSound f.job
  pub long : FullLong f
  pub count_is : k ≡ length (job_bytes f)
  pub front_is : take k out' ≡ job_bytes f

pub job_written : (f : FullJob) (out out' : List ℕ) (k : ℕ) → write_job_answer f out ≡ (Ok k, out') → JobWritten f k out'
unfolding over write_job_answer
job_written f out out' k e =
    let j = f.job in
    let w = wrote (write_job_tests f out) (job_bytes f) out out' k e in
    let s = both_sound (oracle_tests (job_oracle j) j.n j.rows (numbers_fit f)) (ask (leb (length (job_bytes f)) (length out)) Room) w.sound in
    let p = all_hold (is_dimension j.n) (numbers_fit f) (bands_fit (job_oracle j) j.rows) (cursors_fit (job_oracle j)) s.0 in
    record { sound = record { dimension = p.0; bands = p.2; cursors = p.3 }; long = numbers_long f p.1; count_is = w.count_is; front_is = w.front_is }

-- Reading it gives the job back, whatever the reader's slices hold: their fronts become the job's numbers, where they have room.
pub job_written_again : (f : FullJob) → Typed f → (out out' : List ℕ) (k : ℕ) → write_job_answer f out ≡ (Ok k, out')
    → (table xc mq : List Float) → read_job_answer (take k out') table xc mq ≡ read_into f Sound table xc mq
unfolding read_job_answer
job_written_again f y out out' k e table xc mq =
    let w = job_written f out out' k e in
    ap (λ (l : List ℕ). read_job_answer l table xc mq) w.front_is
    ∙ (λ i. read_into (job_again f w.sound w.long y i) (job_faultless f w.sound w.long y i) table xc mq)

-- how many bytes
pub job_written_long : (f : FullJob) (out out' : List ℕ) (k : ℕ) → write_job_answer f out ≡ (Ok k, out') → k ≡ job_size f.job.n f.job.rows
job_written_long f out out' k e = let w = job_written f out out' k e in w.count_is ∙ job_long f w.long

-- equal jobs give equal bytes, and different jobs different bytes
module _ (f g : FullJob) (out out' : List ℕ) (k : ℕ) (e : write_job_answer f out ≡ (Ok k, out')) (room room' : List ℕ) (m : ℕ) (d : write_job_answer g room ≡ (Ok m, room')) where
  pub equal_jobs : f ≡ g → take k out' ≡ take m room'
  equal_jobs h = (job_written f out out' k e).front_is ∙ ap job_bytes h ∙ sym (job_written g room room' m d).front_is

  pub equal_bytes : Typed f → Typed g → take k out' ≡ take m room' → f ≡ g
  equal_bytes y z h =
      let v = job_written f out out' k e in
      let w = job_written g room room' m d in
      sym (job_again f v.sound v.long y) ∙ ap full_job (sym v.front_is ∙ h ∙ w.front_is) ∙ job_again g w.sound w.long z
