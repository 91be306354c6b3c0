-- `drivers::record::count_rows` meets its contract.
use Rattle.std.proofs.Common.{◌≡◌, ℕ, ◌+◌, ◌≤◌, List, [], ◌∷◌, ap, arith, length}
use Rattle.drivers.specs.Record.{rows_in, row_count, fields_of}
use Rattle.drivers.specs.laws.Record.{fields_start, fields_few, rows_few}
use Rattle.drivers.proofs.record.count_rows.Goals as goal

module _ (bytes : List ℕ) (at k rows : ℕ) (rest all : List ℕ) (is : all ≡ at ∷ rest) (a : k ≡ rows_in bytes at) (left : rows + row_count bytes all ≡ row_count bytes (fields_of bytes)) where
  goes_on : rows + k + row_count bytes rest ≡ row_count bytes (fields_of bytes)
  unfolding row_count
  goes_on = let t = ap (row_count bytes) is in omega arith

  fits : rows + k ≤ length bytes
  fits = omega (arith, goes_on, rows_few bytes (fields_of bytes), fields_few bytes 0, ap length (fields_start bytes))

ends : (bytes : List ℕ) (rows total : ℕ) (all : List ℕ) → all ≡ [] → rows + row_count bytes all ≡ total → rows ≡ total
unfolding row_count
ends bytes rows total all is left = let t = ap (row_count bytes) is in omega arith

pub overflow_add-rows : goal.overflow_add-rows
overflow_add-rows c =
    let h = fits c.args.bytes.now _ _ _ _ _ c.in-Some.ensures.steps c.rows_in-rows.ensures c.loop-at.invariant in
    record { fits = omega arith }

pub loop-at-preserved : goal.loop-at-preserved
loop-at-preserved c = goes_on c.args.bytes.now _ _ _ _ _ c.in-Some.ensures.steps c.rows_in-rows.ensures c.loop-at.invariant

pub returns : goal.returns
returns c = ends c.args.bytes.now _ _ _ c.in-None.ensures.steps.0 c.loop-at.invariant
