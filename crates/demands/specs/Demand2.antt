-- Demand 2: "Every accepted call gives the Rust's bits, all NaNs counted as one, and the square root is proved to be IEEE 754's.
-- A job record written and read again is the same job, and an answer record the same answer [a]."
-- That the definitions have the Rust's operations, in its order, is read beside docs/src and compared (docs/LISTS.md): the Rust is not in the logic, so no theorem says it. What can be proved stands here. Assumes nothing.
use Rattle.std.specs.Prelude.{ℕ, suc, ◌≤◌, ◌<◌, ◌≡◌, refl, Bool, true, false, List, map, T, length, take, replicate, ℤ, Float, Ok}
use Rattle.std.proofs.Common.{sym, ◌∙◌, true≢false}
use Rattle.std.specs.Float.{nan, inf, fin, binary64}
use Rattle.std.specs.Float.Ieee.{fits, is_nan, nan_bits, to_bits}
use Rattle.std.specs.Float.Ieee.Positive.{positive}
use Rattle.std.specs.Float.Ieee.Bits.{nan_bits_is}
use Rattle.numbers.specs.Pick.{pick}
use Rattle.numbers.specs.Bits.{float_of, bits_of}
use Rattle.numbers.specs.Sqrt.{sqrt_of, NearestRoot}
use Rattle.numbers.specs.laws.Nearest.{sqrt_nearest}
use Rattle.oracles.specs.laws.Known as KnownValues
use Rattle.drivers.specs.Record.{fronted}
use Rattle.numbers.specs.Refusal.{Sound}
use Rattle.numbers.specs.laws.Refusal.{held, at_next, accepts}
use Rattle.drivers.specs.Job.{FullJob, has_room, read_tests, read_job_answer}
use Rattle.drivers.specs.WriteJob.{write_job_answer}
use Rattle.drivers.specs.Answer.{read_answer_answer, write_answer_answer}
use Rattle.drivers.specs.Program.{program_text}
use Rattle.drivers.specs.laws.RoundTrip as again
use Rattle.drivers.specs.laws.JobAgain as jobs
use Rattle.drivers.specs.laws.Typed.{Typed}
use Rattle.drivers.specs.laws.OneField.{AllF64}
use Rattle.drivers.specs.laws.Worked as worked_example
use Rattle.drivers.specs.declared.answer.Answer.{Answer}

-- ---- "all NaNs counted as one": every pattern of a NaN is read as the one NaN, which is written as document 01 says

one_nan : (x : Float) → is_nan x ≡ true → x ≡ nan
unfolding is_nan
one_nan nan e = refl
one_nan (inf s) e = absurd (true≢false (sym e))
one_nan (fin s m k) e = absurd (true≢false (sym e))

pub nan_read : (w : ℕ) → nan_bits binary64 w ≡ true → float_of w ≡ nan
nan_read w h = one_nan (float_of w) (sym (nan_bits_is binary64 w) ∙ h)

pub nan_written : bits_of nan ≡ 0x7ff8_0000_0000_0000
unfolding to_bits
nan_written = refl

-- ---- "the square root is proved to be IEEE 754's"

-- Document 01: "NaN and numbers below zero give NaN. Each zero gives itself. Plus infinity gives itself."
pub root_of_nan : sqrt_of nan ≡ nan
unfolding sqrt_of
root_of_nan = refl

pub root_below_zero : (m : ℕ) (e : ℤ) → sqrt_of (fin true (suc m) e) ≡ nan
unfolding sqrt_of
root_below_zero m e = refl

pub root_minus_infinity : sqrt_of (inf true) ≡ nan
unfolding sqrt_of
root_minus_infinity = refl

pub root_of_zero : (s : Bool) (e : ℤ) → sqrt_of (fin s 0 e) ≡ fin s 0 e
unfolding sqrt_of
root_of_zero s e = refl

pub root_of_infinity : sqrt_of (inf false) ≡ inf false
unfolding sqrt_of
root_of_infinity = refl

-- "Any other input gives the f64 nearest to the true root, defined by comparing squares of whole numbers; a tie can't happen."
pub root_nearest : (x : Float) → T (fits binary64 x) → T (positive x) → NearestRoot x (sqrt_of x)
root_nearest = sqrt_nearest

-- ---- "A job record written and read again is the same job": whatever stood in the outputs, the reader's fronts become the job's numbers.
-- That these are of their types (`Typed`) is so in every program.
pub job_again : (f : FullJob) → Typed f → (out out' : List ℕ) (k : ℕ) → write_job_answer f out ≡ (Ok k, out')
    → (table xc mq : List Float) → has_room f.job (length table) (length xc) (length mq) ≡ true
    → read_job_answer (take k out') table xc mq ≡ (Ok f.job, fronted f.table table, fronted f.point xc, fronted f.matrix mq)
job_again f y out out' k e table xc mq room = jobs.job_written_again f y out out' k e table xc mq ∙ sym (accepts _ _ (read_tests f Sound table xc mq) (at_next refl (held _ _ room)) refl)

-- Document 02, (a): equal jobs give equal bytes; and different jobs different ones
pub one_record : (f g : FullJob) (out out' : List ℕ) (k : ℕ) → write_job_answer f out ≡ (Ok k, out') → (room room' : List ℕ) (m : ℕ) → write_job_answer g room ≡ (Ok m, room')
    → (f ≡ g → take k out' ≡ take m room') × (Typed f → Typed g → take k out' ≡ take m room' → f ≡ g)
one_record f g out out' k e room room' m d = (jobs.equal_jobs f g out out' k e room room' m d, jobs.equal_bytes f g out out' k e room room' m d)

-- document 01's job of 145 bytes
pub worked_job : write_job_answer worked_example.worked_full (replicate 145 0) ≡ (Ok 145, worked_example.worked_job)
worked_job = worked_example.worked_written

-- ---- "and an answer record the same answer", whatever stood in the outputs
pub answer_again : (n : ℕ) (a : Answer) (x point : List Float) → a.steps < 65536 → AllF64 x → (a.found ≡ true → n ≤ length point)
    → (out out' : List ℕ) (k : ℕ) → write_answer_answer n a x out ≡ (Ok k, out')
    → read_answer_answer n (take k out') point ≡ (Ok a, pick a.found (fronted x point) point)
answer_again n a x point small f64 room = again.written_again n a x point small f64 room

-- ---- document 01's known values marked P, of both lower layers, and its worked job
pub known : map (λ r. r.got) KnownValues.rows ≡ map (λ r. r.expected) KnownValues.rows
known = KnownValues.known

pub worked : program_text worked_example.worked_job ≡ worked_example.worked_text
worked = worked_example.worked
