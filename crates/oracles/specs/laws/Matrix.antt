-- Laws of matrices over flat lists and of sums, for the proofs here and in the crate above. Assumes nothing.
use Rattle.std.specs.Prelude.{◌≡◌, refl, List, ◌∷◌, ◌++◌, ℕ, zero, suc, ◌≤◌, ◌<◌, ◌+◌, ◌-◌, ◌*◌, Float, length, take, drop, get_or, set}
use Rattle.std.proofs.Common.{sym, ap, ◌∙◌, append_assoc, ⊎_elim, le_of_suc-le-suc, eq-or-lt_of_le, suc-mul, zero-mul, mul-le-mul, add-one, length-append, length-drop, take-suc, get_or-append-add, get_or-set_same, get_or-set_other, get_or-take, get_or-drop, take-add, take_all, length-take-le}
use native.Mathlib.Omega.{arith}
use Rattle.std.specs.Float.{nan}
use Rattle.std.proofs.Math.ListN.{get_or-append}
use Rattle.std.proofs.Math.Seq.{append_snoc}
use Rattle.std.proofs.lemmas.List.{set_at}
use Rattle.numbers.specs.Arr.{tab}
use Rattle.numbers.specs.F64.{◌⊗◌}
use Rattle.numbers.specs.laws.Arr.{length_tab, row_in, row_unique, tab_entry, tab_ext}
use Rattle.oracles.specs.Matrix.{nth, at, grid, total}

-- ---- the product of two vectors' entries j

abbrev pub product_at : List Float → List Float → ℕ → Float
product_at v w j = nth v j ⊗ nth w j

-- ---- matrices

-- place (i, j) is one of m rows of n
pub place_in : (m n i j : ℕ) → i < m → j < n → i * n + j < m * n
place_in m n i j h k = omega (arith, row_in n i m h)

pub length_grid : (f : ℕ → ℕ → Float) (m n : ℕ) → length (grid f m n) ≡ m * n
unfolding grid
length_grid f zero n = sym (zero-mul n)
length_grid f (suc m) n = simp (length-append, length_grid f m n, length_tab (f m) n) (sym (suc-mul m n))

-- entry (i, j) of a grid
pub grid_at : (f : ℕ → ℕ → Float) (m n i j : ℕ) → i < m → j < n → at n (grid f m n) i j ≡ f i j
unfolding grid
grid_at f zero n i j h k = absurd (omega (arith, h))
grid_at f (suc m) n i j h k =
    ⊎_elim
    (λ (e : i ≡ m).
    let q : i * n + j ≡ length (grid f m n) + j = rw (e, length_grid f m n) in
    rw q (get_or-append-add (grid f m n) (tab (f m) n) j nan) ∙ tab_entry (f m) n j k ∙ ap (λ (z : ℕ). f z j) (sym e))
    (λ (l : i < m).
    get_or-append (grid f m n) (tab (f m) n) nan (i * n + j) (rw (length_grid f m n) (place_in m n i j l k)) ∙ grid_at f m n i j l k)
    (eq-or-lt_of_le (le_of_suc-le-suc h))

front : (f : ℕ → ℕ → Float) (m n : ℕ) (mat : List Float) → m * n ≤ length mat → ((i j : ℕ) → i < m → j < n → at n mat i j ≡ f i j) → take (m * n) mat ≡ grid f m n
unfolding grid
front f zero n mat l h = rw (zero-mul n)
front f (suc m) n mat l h =
    let l' : m * n + n ≤ length mat = omega (arith, suc-mul m n) in
    let last : take n (drop (m * n) mat) ≡ tab (f m) n =
    tab_ext (f m) n (take n (drop (m * n) mat)) (length-take-le n (drop (m * n) mat) (rw (length-drop (m * n) mat) (omega arith)))
    (λ j k. get_or-take n (drop (m * n) mat) j nan k ∙ get_or-drop (m * n) mat j nan ∙ h m j (omega arith) k)
    in
    rw (suc-mul m n, take-add (m * n) n mat, last, front f m n mat (omega arith) (λ i j a b. h i j (omega arith) b))

-- a list with the entries f i j is their grid
pub grid_ext : (f : ℕ → ℕ → Float) (m n : ℕ) (mat : List Float) → length mat ≡ m * n → ((i j : ℕ) → i < m → j < n → at n mat i j ≡ f i j) → mat ≡ grid f m n
grid_ext f m n mat l h = sym (take_all (m * n) mat (omega (arith, l))) ∙ front f m n mat (omega (arith, l)) h

-- two grids of equal entries
pub grid_cong : (f g : ℕ → ℕ → Float) (m n : ℕ) → ((i j : ℕ) → i < m → j < n → f i j ≡ g i j) → grid f m n ≡ grid g m n
grid_cong f g m n h = grid_ext g m n (grid f m n) (length_grid f m n) (λ i j a b. grid_at f m n i j a b ∙ h i j a b)

-- an entry that is set, and the others
pub at_set_same : (n : ℕ) (mat : List Float) (i j : ℕ) (v : Float) → i * n + j < length mat → at n (set mat (i * n + j) v) i j ≡ v
at_set_same n mat i j v h = get_or-set_same mat (i * n + j) v nan h

pub at_set_other : (n : ℕ) (mat : List Float) (i j r c : ℕ) (v : Float) → j < n → c < n → (r ≡ i → c ≡ j → ⊥) → at n (set mat (i * n + j) v) r c ≡ at n mat r c
at_set_other n mat i j r c v h k apart =
    get_or-set_other mat (i * n + j) (r * n + c) v nan
    (λ q.
    let e : r ≡ i = row_unique n r c i j k h q in
    let p : r * n ≡ i * n = ap (λ (z : ℕ). z * n) e in
    apart e (omega arith))

-- ---- sums

-- sums of equal terms
pub total_cong : (op : Float → Float → Float) (s : Float) (f g : ℕ → Float) (k : ℕ) → ((j : ℕ) → j < k → f j ≡ g j) → total op s f k ≡ total op s g k
unfolding total
total_cong op s f g zero h = refl
total_cong op s f g (suc k) h = rw (total_cong op s f g k (λ j l. h j (omega arith)), h k (omega arith))

-- a sum with one term more, as a loop takes it, and one whose count is known by an equation
pub total_turn : (op : Float → Float → Float) (s : Float) (f : ℕ → Float) (k : ℕ) (t v : Float) → t ≡ total op s f k → v ≡ f k → op t v ≡ total op s f (k + 1)
unfolding total
total_turn op s f k t v e h = rw (e, h, add-one)

pub total_at : (op : Float → Float → Float) (s : Float) (f : ℕ → Float) (k m : ℕ) (t : Float) → t ≡ total op s f k → k ≡ m → t ≡ total op s f m
total_at op s f k m t e h = e ∙ ap (total op s f) h

-- a loop whose counter k runs from `from` to `end`: `s` when the terms before k are taken
pub record SummedFrom (op : Float → Float → Float) (s₀ : Float) (f : ℕ → Float) (from end : ℕ) (s : Float) (k : ℕ) : Type 0 where
  pub begun : from ≤ k
  pub within : k ≤ end
  pub is : s ≡ total op s₀ (λ j. f (from + j)) (k - from)

module _ (op : Float → Float → Float) (s₀ : Float) (f : ℕ → Float) (from end : ℕ) where
  pub from_start : from ≤ end → SummedFrom op s₀ f from end s₀ from
  unfolding total
  from_start h =
      let q : from - from ≡ 0 = omega arith in
      record { begun = omega arith; within = h; is = rw q }

  pub from_turn : (s : Float) (k : ℕ) (v : Float) → SummedFrom op s₀ f from end s k → k < end → v ≡ f k → SummedFrom op s₀ f from end (op s v) (k + 1)
  from_turn s k v h l e =
      let b = h.begun in
      let q : k + 1 - from ≡ k - from + 1 = omega arith in
      let p : from + (k - from) ≡ k = omega arith in
      record {
        begun = omega arith;
        within = omega arith;
        is = rw q (total_turn op s₀ (λ j. f (from + j)) (k - from) s v h.is (rw p e));
      }

  pub from_done : (s : Float) (k : ℕ) → SummedFrom op s₀ f from end s k → end ≤ k → s ≡ total op s₀ (λ j. f (from + j)) (end - from)
  from_done s k h l = total_at op s₀ (λ j. f (from + j)) (k - from) (end - from) s h.is (omega arith)

-- ---- places of a matrix of order 32 at most fit a usize

-- row i ends at a small number
pub row_small : (m i : ℕ) → m ≤ 32 → i < m → i * m + m ≤ 1024
row_small m i h k = omega (arith, row_in m i m k, mul-le-mul h h)

-- ---- a vector in three parts

-- an entry of the middle one
pub entry_mid : (xs ys zs : List Float) (i j : ℕ) → length xs ≡ i → j < length ys → nth (xs ++ ys ++ zs) (i + j) ≡ nth ys j
entry_mid xs ys zs i j e h =
    rw (← e)
    (get_or-append (xs ++ ys) zs nan (length xs + j) (rw (length-append xs ys) (omega arith)) ∙ get_or-append-add xs ys j nan)

-- the last entry of the front, set, goes to the middle one
pub set_last : (xs : List Float) (i : ℕ) (v : Float) (ys zs : List Float) → i < length xs → set (take (suc i) xs ++ ys ++ zs) i v ≡ take i xs ++ (v ∷ ys) ++ zs
set_last xs i v ys zs h =
    rw (take-suc xs i nan h, append_snoc (take i xs) (get_or xs i nan) ys, append_assoc, append_assoc)
    (set_at (take i xs) (get_or xs i nan) (ys ++ zs) v i (length-take-le i xs (omega arith)))
