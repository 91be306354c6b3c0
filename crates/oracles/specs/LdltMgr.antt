-- The factorization A = L D Lᵀ with its witness (ldlt_mgr.rs), in the Rust's order of operations. Definitions only.
use Rattle.numbers.specs.declared.refusal.Refusal.{Refusal}
use Rattle.std.specs.Prelude.{ℕ, zero, suc, ◌+◌, ◌-◌, ◌*◌, Bool, ◌&&◌, List, [], ◌∷◌, ◌++◌, leb, ltb, eqb, length, take, drop, Float, Err, Ok, Result, Some, None, Option}
use Rattle.std.specs.Float.Ieee.{le, neg}
use Rattle.numbers.specs.F64.{◌⊕◌, ◌⊖◌, ◌⊗◌, ◌⊘◌, 0ᶠ, 1ᶠ, 2ᶠ}
use Rattle.numbers.specs.Pick.{pick}
use Rattle.numbers.specs.Refusal.{◌⨾◌, unless, ask, Tests}
use Rattle.numbers.specs.declared.refusal.Refusal.TheVariants.{Dimension, Length, Position}
use Rattle.oracles.specs.Matrix.{nth, at, grid, total}
use Rattle.oracles.specs.declared.ldlt_mgr.Pos.{Pos}

-- a matrix's order is 1 to 32
abbrev pub is_order : ℕ → Bool
is_order m = leb 1 m && leb m 32

-- ---- the entry

-- mat_b's entry, from which each mat_f[k] × xc[k] is subtracted in turn; mat_f[k] begins at k × m². With an empty xc it is mat_b's own.
unfoldable pub get_elem : ℕ → List Float → List Float → List Float → ℕ → ℕ → Float
get_elem m mat_b mat_f xc i j = total ◌⊖◌ (at m mat_b i j) (λ k. nth mat_f (k * (m * m) + (i * m + j)) ⊗ nth xc k) (length xc)

-- ---- the factors of a matrix with entries A i j, of which those with j ≤ i are read

-- column j's entry of row i, less what the columns before it have taken
abbrev pub less : (ℕ → ℕ → Float) → ℕ → ℕ → Float → Float
less A i zero s = A i 0
less A i (suc j) s = A i (suc j) ⊖ s

-- the sum of L[i, k] × D[k] L[c, k] over the columns k below j
unfoldable pub taken : (ℕ → ℕ → Float) → ℕ → ℕ → ℕ → Float
taken A i c zero = 0ᶠ
taken A i c (suc k) = taken A i c k ⊕ less A i k (taken A i k k) ⊘ less A k k (taken A k k k) ⊗ less A c k (taken A c k k)

-- D[j] L[i, j]; the pivot D[i] where j is i
unfoldable pub reduced : (ℕ → ℕ → Float) → ℕ → ℕ → Float
reduced A i j = less A i j (taken A i j j)

-- the storage's entry (r, c): L below the diagonal, the pivots on it, D L's transpose above it
unfoldable pub stored : (ℕ → ℕ → Float) → ℕ → ℕ → Float
stored A r c = pick (ltb c r) (reduced A r c ⊘ reduced A c c) (reduced A c r)

-- a pivot below or equal to zero stops the factorization; NaN does not
abbrev pub stops : Float → Bool
stops d = le d 0ᶠ

-- one more than the first row from i on, of `left` rows, whose pivot stops it; 0 where none does
unfoldable pub stop_from : (ℕ → ℕ → Float) → ℕ → ℕ → ℕ
stop_from A zero i = 0
stop_from A (suc left) i = pick (stops (reduced A i i)) (suc i) (stop_from A left (suc i))

-- the stop of all m rows
unfoldable pub stop_of : (ℕ → ℕ → Float) → ℕ → ℕ
stop_of A m = stop_from A m 0

-- the storage with the rows and columns below k written; the rest keeps its old numbers
unfoldable pub filled : (ℕ → ℕ → Float) → ℕ → List Float → ℕ → List Float
filled A m storage k = grid (λ r c. pick (ltb r k && ltb c k) (stored A r c) (at m storage r c)) m m

-- pos is (start, end) = (0, the stop)
abbrev pub position_of : ℕ → Pos
position_of e = record { start = 0; end = e }

-- the stop, and the storage up to it: all rows are written where there is none
unfoldable pub factor_rows : (ℕ → ℕ → Float) → ℕ → List Float → ℕ × List Float
factor_rows A m storage = let e = stop_of A m in (e, filled A m storage (pick (eqb e 0) m e))

-- where it stopped; none where it is definite
abbrev pub factored : (ℕ → ℕ → Float) → ℕ → List Float → Option Pos × List Float
factored A m storage = let w = factor_rows A m storage in (pick (eqb w.0 0) None (Some (position_of w.0)), w.1)

-- nothing is refused
unfoldable pub factor_of : (ℕ → ℕ → Float) → ℕ → List Float → Result (Option Pos) Refusal × List Float
factor_of A m storage = let w = factored A m storage in (Ok w.0, w.1)

-- refusals 1 and 2 of a call with matrices of order m, whose lengths are right where `fit` is true
abbrev pub ordered : ℕ → Bool → Tests
ordered m fit = ask (is_order m) Dimension ⨾ ask fit Length

-- `factor`
abbrev pub factor_tests : ℕ → List Float → List Float → Tests
factor_tests m mat storage = ordered m (eqb (length mat) (m * m) && eqb (length storage) (m * m))

abbrev pub factor_answer : ℕ → List Float → List Float → Result (Option Pos) Refusal × List Float
factor_answer m mat storage = unless (factor_tests m mat storage) (λ why place. (Err why, storage)) (factor_of (get_elem m mat [] []) m storage)

-- ---- the witness

-- its last `count` entries before `end`: 1, and before it each entry the negated sum of L's column below it times the entries after it
unfoldable pub witness_tail : ℕ → List Float → ℕ → ℕ → List Float
witness_tail m storage end zero = []
witness_tail m storage end (suc zero) = 1ᶠ ∷ []
witness_tail m storage end (suc (suc k)) =
    let after = witness_tail m storage end (suc k) in
    let i = end - suc (suc k) in
    neg (total ◌⊕◌ 0ᶠ (λ j. at m storage (i + 1 + j) i ⊗ nth after j) (suc k)) ∷ after

-- entries start to end − 1 are written
unfoldable pub witness_of : ℕ → Pos → List Float → List Float → List Float
witness_of m pos storage wit = take pos.start wit ++ witness_tail m storage pos.end (pos.end - pos.start) ++ drop pos.end wit

-- `witness`: refusal 5 unless start < end ≤ m; the negated last pivot, and the witness
abbrev pub witness_tests : ℕ → Pos → List Float → List Float → Tests
witness_tests m pos storage wit = ordered m (eqb (length storage) (m * m) && eqb (length wit) m) ⨾ ask (ltb pos.start pos.end && leb pos.end m) Position

abbrev pub witness_answer : ℕ → Pos → List Float → List Float → Result Float Refusal × List Float
witness_answer m pos storage wit =
    unless (witness_tests m pos storage wit) (λ why place. (Err why, wit))
    (Ok (neg (at m storage (pos.end - 1) (pos.end - 1))), witness_of m pos storage wit)

-- ---- the quadratic form

-- row i's part, from the upper triangle
unfoldable pub quad_term : ℕ → List Float → List Float → ℕ → ℕ → Float
quad_term m wit mat end i =
    let s = total ◌⊕◌ 0ᶠ (λ j. at m mat i (i + 1 + j) ⊗ nth wit (i + 1 + j)) (end - (i + 1)) in
    nth wit i ⊗ (at m mat i i ⊗ nth wit i ⊕ 2ᶠ ⊗ s)

-- the sum over the rows start to end − 1
unfoldable pub quad_of : ℕ → Pos → List Float → List Float → Float
quad_of m pos wit mat = total ◌⊕◌ 0ᶠ (λ k. quad_term m wit mat pos.end (pos.start + k)) (pos.end - pos.start)

-- `sym_quad`: refusal 5 unless start ≤ end ≤ m
abbrev pub sym_quad_tests : ℕ → Pos → List Float → List Float → Tests
sym_quad_tests m pos wit mat = ordered m (eqb (length wit) m && eqb (length mat) (m * m)) ⨾ ask (leb pos.start pos.end && leb pos.end m) Position

abbrev pub sym_quad_answer : ℕ → Pos → List Float → List Float → Result Float Refusal
sym_quad_answer m pos wit mat = unless (sym_quad_tests m pos wit mat) (λ why place. Err why) (Ok (quad_of m pos wit mat))
