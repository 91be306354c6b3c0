-- `drivers::job::fill_job` meets its contract. Assumes nothing.
use mathlib.Core.Path.{◌≡◌, sym, ◌∙◌}
use mathlib.Core.List.{List, ◌++◌}
use Prim.Native.Nat.{ℕ, ◌≤◌, ◌*◌}
use native.Mathlib.Nat.{mul-le-mul}
use native.Mathlib.Omega.{arith}
use lib.ListN.{length, take, drop}
use lib.Seq.{length-take-le}
use lib.Ieee.{Float}
use Rattle.numbers.specs.laws.Arr.{length_tab}
use Rattle.drivers.specs.Record.{number_at, numbers_at, fronted}
use Rattle.numbers.specs.laws.Over.{over_front}
use Rattle.drivers.proofs.job.fill_job.Goals as goal

-- numbers that were written to the front
front : (bytes : List ℕ) (p m : ℕ) (ys out : List Float) → ys ≡ numbers_at bytes p (length (take m out)) → m ≤ length out → ys ++ drop m out ≡ fronted (numbers_at bytes p m) out
front bytes p m ys out e h =
    let q : ys ++ drop m out ≡ numbers_at bytes p m ++ drop (length (numbers_at bytes p m)) out = rw (e, length-take-le m out h, length_tab (λ j. number_at bytes p j) m) in
    q ∙ sym (over_front out (numbers_at bytes p m))

square : (n : ℕ) → n ≤ 32 → n * n ≤ 1024
square n h = mul-le-mul h h

pub numbers_into-requires : goal.numbers_into-requires
numbers_into-requires c =
    rw (length-take-le _ _ c.requires.2) (omega (arith, c.requires.0))

pub slice_bounds-numbers_into-end-4 : goal.slice_bounds-numbers_into-end-4
slice_bounds-numbers_into-end-4 c = sym (length-take-le _ _ c.requires.3)

pub numbers_into-requires-2 : goal.numbers_into-requires-2
numbers_into-requires-2 c =
    rw (length-take-le _ _ c.requires.3) (omega (arith, square _ c.requires.0))

pub returns : goal.returns
returns c =
    record {
      table_after = c.fill_table.ensures;
      xc_after = front _ _ _ _ _ c.numbers_into.ensures c.requires.2;
      mq_after = front _ _ _ _ _ c.numbers_into-2.ensures c.requires.3;
    }

pub overflow_mul-nn : goal.overflow_mul-nn
overflow_mul-nn c = let h = square _ c.requires.0 in record { fits = omega arith }

pub fill_table-requires : goal.fill_table-requires
fill_table-requires c = (omega (arith, c.requires.0), c.requires.1)

pub slice_bounds-numbers_into-end-2 : goal.slice_bounds-numbers_into-end-2
slice_bounds-numbers_into-end-2 c = sym (length-take-le _ _ c.requires.2)
