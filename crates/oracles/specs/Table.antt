-- The row table: flat, `rows` rows of n numbers. Its limits, and the values of its rows at a point. Definitions only.
use Rattle.std.specs.Prelude.{ℕ, ◌+◌, ◌*◌, Bool, ◌&&◌, List, leb, eqb, length, Float}
use Rattle.numbers.specs.Arr.{dot_of, row_of}
use Rattle.numbers.specs.declared.arr.Four.{Four}

-- a table has 1 to 1,024 rows
abbrev pub is_rows : ℕ → Bool
is_rows rows = leb 1 rows && leb rows 1024

-- the lengths that n and the row count say
abbrev pub table_fits : ℕ → ℕ → List Float → List Float → Bool
table_fits n rows table x = eqb (length table) (rows * n) && eqb (length x) n

-- row i's value: its `dot` with the point
unfoldable pub value_of : ℕ → List Float → List Float → ℕ → Float
value_of n table x i = dot_of (row_of n table i) x

-- the values of the four rows from row i on
abbrev pub four_values : ℕ → List Float → List Float → ℕ → Four
four_values n table x i =
    record {
      a = value_of n table x i;
      b = value_of n table x (i + 1);
      c = value_of n table x (i + 2);
      d = value_of n table x (i + 3);
    }
