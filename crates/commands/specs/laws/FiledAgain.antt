-- Laws of File: what was filed is read again, so filing it once more writes the same bytes. Assumes nothing.
use Rattle.std.specs.Prelude.{ℕ, ◌≡◌, refl, T, List, [], ◌∷◌, length, Float, Option, Some, None, Result, Ok, Err}
use Rattle.std.specs.Float.{binary64}
use Rattle.std.specs.Float.Ieee.{fits}
use Rattle.std.specs.Float.Ieee.Bits.{of_bits-fits}
use Rattle.std.proofs.Common.{sym, ap, ◌∙◌, subst, arith}
use Rattle.std.specs.Option.{unwrap_or}
use Rattle.numbers.specs.Refusal.{◌⨾◌, Sound}
use Rattle.numbers.specs.laws.Pick.{by_test}
use Rattle.numbers.specs.laws.Refusal.{both_sound, accepts}
use Rattle.streams.specs.declared.output.Stream.TheVariants.{Stdout}
use Rattle.drivers.specs.Job.{FullJob, full_job_at, job_walk, full_job, job_fault}
use Rattle.drivers.specs.Input.{input_tests}
use Rattle.drivers.specs.WriteJob.{job_bytes}
use Rattle.drivers.specs.laws.Job.{JobSound, sound_job}
use Rattle.drivers.specs.laws.JobRuns.{FullLong, full_long}
use Rattle.drivers.specs.laws.JobAgain.{job_again}
use Rattle.drivers.specs.laws.Typed.{Typed, f64_none, f64_cons, read_typed}
use Rattle.drivers.specs.laws.Filed.{filed_long, filed_taken}
use Rattle.drivers.specs.Text.{bytes_of}
use Rattle.commands.specs.Arguments.{same_word, hex_value, limit_read, limit_of, three_limits, limits_of, own_limits}
use Rattle.commands.specs.Output.{Written}
use Rattle.commands.specs.File.{limited, file_written}
use Rattle.commands.specs.laws.File.{limits_sound}
use Rattle.commands.specs.declared.arguments.NoLimit.{NoLimit}
use Rattle.commands.specs.declared.arguments.Limits.{Limits}

-- ---- limits that are given are of their type

abbrev pub LimitTyped : Option Float → Type 0
LimitTyped None = Unit {0}
LimitTyped (Some x) = T (fits binary64 x)

pub record LimitsTyped (l : Limits) : Type 0 where
  pub lp : LimitTyped l.lp
  pub up : LimitTyped l.up
  pub sp : LimitTyped l.sp

or_typed : (l : Option Float) (own : Float) → LimitTyped l → T (fits binary64 own) → T (fits binary64 (unwrap_or l own))
or_typed None own h k = k
or_typed (Some x) own h k = h

limited_typed : (l : Limits) (f : FullJob) → LimitsTyped l → Typed f → Typed (limited l f)
limited_typed l f h y =
    let j = f.job in
    let lp = unwrap_or l.lp j.lp_sq in
    let up = unwrap_or l.up j.up_sq in
    let sp = unwrap_or l.sp j.sp_sq in
    record {
      max_iters = y.max_iters;
      limits =
          f64_cons lp (up ∷ sp ∷ []) (or_typed l.lp j.lp_sq h.lp (y.limits 0 (omega arith)))
          (f64_cons up (sp ∷ []) (or_typed l.up j.up_sq h.up (y.limits 1 (omega arith))) (f64_cons sp [] (or_typed l.sp j.sp_sq h.sp (y.limits 2 (omega arith))) f64_none));
      kappa = y.kappa;
      tolerance = y.tolerance;
      table = y.table;
      point = y.point;
      matrix = y.matrix;
    }

-- ---- filed again

-- a record without a fault
filed_made : (l : Limits) (bytes : List ℕ) → (input_tests bytes ⨾ job_fault bytes) ≡ Sound → file_written l bytes ≡ (Stdout, job_bytes (limited l (full_job bytes)))
unfolding file_written
filed_made l bytes s = sym (accepts _ _ (input_tests bytes ⨾ job_fault bytes) (sym s) refl)

module _ (l : Limits) (bytes : List ℕ) (typed : LimitsTyped l) (s : (input_tests bytes ⨾ job_fault bytes) ≡ Sound) where
  abbrev made : FullJob
  made = limited l (full_job bytes)

  faultless : job_fault bytes ≡ Sound
  faultless = (both_sound (input_tests bytes) (job_fault bytes) s).1

  sound : JobSound made.job
  unfolding full_job_at
  sound = limits_sound l (full_job bytes).job (sound_job bytes faultless)

  long : FullLong made
  long = let f = full_long bytes (job_walk bytes).1 in record { table_is = f.table_is; point_is = f.point_is; matrix_is = f.matrix_is }

  made_typed : Typed made
  made_typed = limited_typed l (full_job bytes) typed (read_typed bytes)

  -- What is filed is read as the job, with these limits ..
  pub filed_job : full_job (file_written l bytes).1 ≡ limited l (full_job bytes)
  filed_job = ap (λ (w : Written). full_job w.1) (filed_made l bytes s) ∙ job_again made sound long made_typed

  -- .. has as many bytes as what was read ..
  pub filed_size : length (file_written l bytes).1 ≡ length bytes
  filed_size = ap (λ (w : Written). length w.1) (filed_made l bytes s) ∙ filed_long bytes faultless made long refl refl

  -- .. and is taken again, and filed as it is.
  pub filed_again : file_written own_limits (file_written l bytes).1 ≡ file_written l bytes
  filed_again =
      let w = filed_made l bytes s in
      let again : (input_tests (job_bytes made) ⨾ job_fault (job_bytes made)) ≡ Sound = filed_taken bytes faultless made sound long made_typed refl refl ∙ s in
      ap (λ (w : Written). file_written own_limits w.1) w
      ∙ filed_made own_limits (job_bytes made) again
      ∙ ap (λ (f : FullJob). (Stdout, job_bytes (limited own_limits f))) (job_again made sound long made_typed)
      ∙ sym w

-- ---- what three words give is of its type

ok_injective : {A E : Type 0} {a b : A} → ◌≡◌ {A = Result A E} (Ok a) (Ok b) → a ≡ b
ok_injective e = cc

err_apart : {A E : Type 0} {a : A} {no_limit : E} → ◌≡◌ {A = Result A E} (Err no_limit) (Ok a) → ⊥
err_apart e = let z : ◌≡◌ {A = ℕ} 0 1 = cc in omega arith

abbrev ReadTyped : Result (Option Float) NoLimit → Type 0
ReadTyped r = (l : Option Float) → r ≡ Ok l → LimitTyped l

limit_typed : (word : List ℕ) → ReadTyped (limit_of word)
unfolding limit_of
limit_typed word =
    by_test ReadTyped (same_word word (bytes_of "-")) (Ok None) (limit_read (hex_value word)) (λ t. own) (λ t. digits (hex_value word))
  where
    own : ReadTyped (Ok None)
    own l e = subst LimitTyped (ok_injective e) tt

    digits : (o : Option ℕ) → ReadTyped (limit_read o)
    digits (Some w) l e = subst LimitTyped (ok_injective e) (of_bits-fits binary64 w)
    digits None l e = absurd (err_apart e)

-- So the limits of any words are.
pub limits_typed : (lp up sp : List ℕ) (l : Limits) → limits_of lp up sp ≡ Ok l → LimitsTyped l
limits_typed lp up sp l = go (limit_of lp) (limit_of up) (limit_of sp) (limit_typed lp) (limit_typed up) (limit_typed sp)
  where
    go : (a b c : Result (Option Float) NoLimit) → ReadTyped a → ReadTyped b → ReadTyped c → three_limits a b c ≡ Ok l → LimitsTyped l
    go (Ok x) (Ok y) (Ok z) p q r e = subst LimitsTyped (ok_injective e) (record { lp = p x refl; up = q y refl; sp = r z refl })
    go (Ok x) (Ok y) (Err z) p q r e = absurd (err_apart e)
    go (Ok x) (Err y) c p q r e = absurd (err_apart e)
    go (Err x) b c p q r e = absurd (err_apart e)
