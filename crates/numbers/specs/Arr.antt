-- Vectors and matrices over flat lists (arr.rs), and what the public calls answer. Definitions only.
use Rattle.numbers.specs.declared.refusal.Refusal.{Refusal}
use Rattle.std.specs.Prelude.{ℕ, zero, suc, ◌+◌, ◌*◌, Bool, ◌&&◌, List, [], ◌∷◌, ◌++◌, leb, eqb, length, take, drop, get_or, set, replicate, Float, Err, Ok, Result, ⊤}
use Rattle.std.specs.Float.{nan}
use Rattle.numbers.specs.F64.{◌⊕◌, ◌⊗◌, 0ᶠ, −0ᶠ, 1ᶠ}
use Rattle.numbers.specs.Refusal.{◌⨾◌, unless, ask, Tests}
use Rattle.numbers.specs.declared.refusal.Refusal.TheVariants.{Dimension, Length}
use Rattle.numbers.specs.declared.arr.Four.{Four}

-- a point's dimension is 2 to 32
abbrev pub is_dimension : ℕ → Bool
is_dimension n = leb 2 n && leb n 32

-- s, and the products of what the two lists have in common, added left to right
unfoldable pub dot_from : Float → List Float → List Float → Float
dot_from s [] b = s
dot_from s (x ∷ a) [] = s
dot_from s (x ∷ a) (y ∷ b) = dot_from (s ⊕ x ⊗ y) a b

-- `dot`: from the first product on; −0, the sum of no products, where there is none
unfoldable pub dot_of : List Float → List Float → Float
dot_of [] b = −0ᶠ
dot_of (x ∷ a) [] = −0ᶠ
dot_of (x ∷ a) (y ∷ b) = dot_from (x ⊗ y) a b

-- row i of a flat table of rows of n
abbrev pub row_of : ℕ → List Float → ℕ → List Float
row_of n table i = take n (drop (i * n) table)

-- `dot` of each of four rows with x
abbrev pub four_of : List Float → List Float → List Float → List Float → List Float → Four
four_of a b c d x = record { a = dot_of a x; b = dot_of b x; c = dot_of c x; d = dot_of d x }

-- f 0, f 1, .. f (n - 1)
unfoldable pub tab {ℓ} : {X : Type ℓ} → (ℕ → X) → ℕ → List X
tab f zero = []
tab f (suc n) = tab f n ++ (f n ∷ [])

-- matrix times vector: each row's sum begins at plus zero
unfoldable pub mv_of : ℕ → List Float → List Float → List Float
unfolding tab
mv_of n mat x = tab (λ i. dot_from 0ᶠ (row_of n mat i) x) n

-- the entries (i, i) for i below k set to v's
unfoldable pub set_diag : ℕ → List Float → ℕ → List Float → List Float
set_diag n v zero mat = mat
set_diag n v (suc i) mat = set (set_diag n v i mat) (i * n + i) (get_or v i nan)

-- zeros, and v on the diagonal
unfoldable pub diag_of : ℕ → List Float → List Float
unfolding set_diag
diag_of n v = set_diag n v n (replicate (n * n) 0ᶠ)

-- ---- the public calls: refusal 1, then 2, and nothing written

-- refusal 1 by the dimension n, then 2 by the lengths, which are right where `fit` is true
abbrev pub sized : ℕ → Bool → Tests
sized n fit = ask (is_dimension n) Dimension ⨾ ask fit Length

-- `dot`: two vectors of n
abbrev pub dot_tests : ℕ → List Float → List Float → Tests
dot_tests n a b = sized n (eqb (length a) n && eqb (length b) n)

abbrev pub dot_answer : ℕ → List Float → List Float → Result Float Refusal
dot_answer n a b = unless (dot_tests n a b) (λ why place. Err why) (Ok (dot_of a b))

-- A call that fills `out`: its answer, and `out` as it leaves it.
abbrev pub fills : Tests → List Float → List Float → Result ⊤ Refusal × List Float
fills tests filled out = unless tests (λ why place. (Err why, out)) (Ok tt, filled)

-- `dot_mv_into`: an n by n matrix, a vector of n, and n numbers to fill
abbrev pub dot_mv_into_tests : ℕ → List Float → List Float → List Float → Tests
dot_mv_into_tests n mat x out = sized n (eqb (length mat) (n * n) && eqb (length x) n && eqb (length out) n)

abbrev pub dot_mv_into_answer : ℕ → List Float → List Float → List Float → Result ⊤ Refusal × List Float
dot_mv_into_answer n mat x out = fills (dot_mv_into_tests n mat x out) (mv_of n mat x) out

-- `copy_from`: two vectors of n
abbrev pub copy_from_tests : ℕ → List Float → List Float → Tests
copy_from_tests n dst src = sized n (eqb (length dst) n && eqb (length src) n)

abbrev pub copy_from_answer : ℕ → List Float → List Float → Result ⊤ Refusal × List Float
copy_from_answer n dst src = fills (copy_from_tests n dst src) src dst

-- `eye`: an n by n matrix to fill, with ones on its diagonal
abbrev pub eye_tests : ℕ → List Float → Tests
eye_tests n out = sized n (eqb (length out) (n * n))

abbrev pub eye_answer : ℕ → List Float → Result ⊤ Refusal × List Float
eye_answer n out = fills (eye_tests n out) (diag_of n (replicate n 1ᶠ)) out

-- `from_diag`: a vector of n, and an n by n matrix to fill
abbrev pub from_diag_tests : ℕ → List Float → List Float → Tests
from_diag_tests n v out = sized n (eqb (length v) n && eqb (length out) (n * n))

abbrev pub from_diag_answer : ℕ → List Float → List Float → Result ⊤ Refusal × List Float
from_diag_answer n v out = fills (from_diag_tests n v out) (diag_of n v) out
