-- Matrices over flat lists by row and column (`at` of arr.rs), and sums. Definitions only.
use Rattle.std.specs.Prelude.{ℕ, zero, suc, ◌+◌, ◌*◌, List, [], ◌++◌, get_or, Float}
use Rattle.std.specs.Float.{nan}
use Rattle.numbers.specs.Arr.{tab}

-- entry i of a vector, and entry (i, j) of a matrix with rows of n
abbrev pub nth : List Float → ℕ → Float
nth v i = get_or v i nan

abbrev pub at : ℕ → List Float → ℕ → ℕ → Float
at n mat i j = nth mat (i * n + j)

-- the matrix of m rows of n with the entries f i j
unfoldable pub grid : (ℕ → ℕ → Float) → ℕ → ℕ → List Float
grid f zero n = []
grid f (suc i) n = grid f i n ++ tab (f i) n

-- s, and f 0, f 1, .. f (k − 1) added, or subtracted, in turn
unfoldable pub total : (Float → Float → Float) → Float → (ℕ → Float) → ℕ → Float
total op s f zero = s
total op s f (suc k) = op (total op s f k) (f k)
