-- A job whose numbers are of their types, as every number in a program is; one that was read has such. Assumes nothing.
use Prim.Native.Nat.{ℕ, zero, suc, ◌*◌, ◌<◌}
use Rattle.std.specs.Prelude.{List, [], ◌∷◌, ◌++◌, T, Float}
use Rattle.std.specs.Float.{binary64}
use Rattle.std.specs.Float.Ieee.{fits}
use Rattle.std.specs.Float.Ieee.Bits.{of_bits-fits}
use Rattle.std.proofs.Common.{arith}
use Rattle.numbers.specs.Pick.{pick}
use Rattle.numbers.specs.Arr.{tab}
use Rattle.numbers.specs.laws.Pick.{by_test}
use Rattle.drivers.specs.Record.{is_row, content_of, number_at, numbers_at, rows_of, fields_of, place}
use Rattle.drivers.specs.Rules.{limits_place, kappa_place, point_place, matrix_place}
use Rattle.drivers.specs.Job.{FullJob, options_of, job_at, full_job_at, job_walk, full_job}
use Rattle.drivers.specs.laws.OneField.{AllF64}

-- each number of a job is one of its type: a step limit of 16 bits, and floats of 64
pub record Typed (f : FullJob) : Type 0 where
  pub max_iters : f.job.options.max_iters < 65536
  pub limits : AllF64 (f.job.lp_sq ∷ f.job.up_sq ∷ f.job.sp_sq ∷ [])
  pub kappa : AllF64 (f.job.kappa ∷ [])
  pub tolerance : AllF64 (f.job.options.tolerance ∷ [])
  pub table : AllF64 f.table
  pub point : AllF64 f.point
  pub matrix : AllF64 f.matrix

-- ---- lists of f64

pub f64_none : AllF64 []
f64_none i h = absurd (omega (arith, h))

pub f64_cons : (x : Float) (xs : List Float) → T (fits binary64 x) → AllF64 xs → AllF64 (x ∷ xs)
f64_cons x xs h k zero l = h
f64_cons x xs h k (suc i) l = k i (omega (arith, l))

f64_append : (xs ys : List Float) → AllF64 xs → AllF64 ys → AllF64 (xs ++ ys)
f64_append [] ys h k = k
f64_append (x ∷ xs) ys h k = f64_cons x (xs ++ ys) (h 0 (omega arith)) (f64_append xs ys (λ i l. h (suc i) (omega arith)) k)

f64_tab : (f : ℕ → Float) (n : ℕ) → ((i : ℕ) → T (fits binary64 (f i))) → AllF64 (tab f n)
unfolding tab
f64_tab f zero h = f64_none
f64_tab f (suc n) h = f64_append (tab f n) (f n ∷ []) (f64_tab f n h) (f64_cons (f n) [] (h n) f64_none)

-- ---- what is read

module _ (bytes : List ℕ) where
  number_f64 : (p k : ℕ) → T (fits binary64 (number_at bytes p k))
  unfolding number_at
  number_f64 p k = of_bits-fits binary64 _

  numbers_f64 : (p n : ℕ) → AllF64 (numbers_at bytes p n)
  numbers_f64 p n = f64_tab (number_at bytes p) n (number_f64 p)

  rows_f64 : (n : ℕ) (fields : List ℕ) → AllF64 (rows_of n bytes fields)
  unfolding rows_of
  rows_f64 n [] = f64_none
  rows_f64 n (at ∷ fields) =
      f64_append (pick (is_row bytes at) (numbers_at bytes (content_of bytes at) n) []) (rows_of n bytes fields)
      (by_test AllF64 (is_row bytes at) _ _ (λ _. numbers_f64 (content_of bytes at) n) (λ _. f64_none)) (rows_f64 n fields)

  pub read_typed : Typed (full_job bytes)
  unfolding full_job_at job_at options_of tab
  read_typed =
      let places = (job_walk bytes).1 in
      let n = (full_job bytes).job.n in record {
        max_iters = omega arith;
        limits = numbers_f64 (place places limits_place) 3;
        kappa = numbers_f64 (place places kappa_place) 1;
        tolerance = f64_cons (full_job bytes).job.options.tolerance [] (of_bits-fits binary64 _) f64_none;
        table = rows_f64 n (fields_of bytes);
        point = numbers_f64 (place places point_place) n;
        matrix = numbers_f64 (place places matrix_place) (n * n);
      }
