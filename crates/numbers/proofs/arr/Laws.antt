-- Laws that the proofs of arr alone use. Assumes nothing.
use mathlib.Core.Path.{◌≡◌, refl, sym, ap, ◌∙◌}
use mathlib.Core.Bool.{Bool, true, false, not, ◌&&◌, and-eq-true_iff}
use mathlib.Core.List.{List, [], ◌∷◌}
use Prim.Native.Nat.{ℕ, zero, suc, ◌≤◌, ◌<◌, ◌+◌, ◌*◌, min}
use native.Mathlib.Nat.{mul-le-mul, le_of_suc-le-suc}
use native.Mathlib.Numerals.{add-one}
use native.Mathlib.Omega.{arith}
use borrow.Author.Tests.{ltb-true, eqb-true}
use lib.Dec.{ltb, eqb}
use lib.ListN.{length, take, drop, get_or, set, replicate}
use lib.Seq.{take_all}
use lib.Ieee.{Float, nan, neg, of_bits}
use Rattle.numbers.specs.F64.{◌⊕◌, ◌⊗◌, 0ᶠ}
use Rattle.numbers.specs.Arr.{is_dimension, dot_from, dot_of, row_of, four_of, tab, mv_of, set_diag, diag_of}
use Rattle.numbers.specs.declared.arr.Four.{Four}
use Rattle.numbers.specs.laws.Pick.{says_yes}
use Rattle.numbers.specs.laws.Arr.{dot_step, dot_end, tab_get_or, FilledTo, filled_start, filled_turn, filled_done, row_in, dimension_most, four_from, four_row_dots}

-- ---- the sum's loop, from its invariant `dot_from s (drop i a) (drop i b) ≡ d`

module _ (a b : List Float) (s : Float) (i : ℕ) {d : Float} (e : dot_from s (drop i a) (drop i b) ≡ d) where
  pub sum_again : i < length a → i < length b → dot_from (s ⊕ get_or a i nan ⊗ get_or b i nan) (drop (i + 1) a) (drop (i + 1) b) ≡ d
  sum_again h k = dot_step s a b i h k ∙ e

  pub sum_two : i + 1 < length a → i + 1 < length b
      → dot_from (s ⊕ get_or a i nan ⊗ get_or b i nan ⊕ get_or a (i + 1) nan ⊗ get_or b (i + 1) nan) (drop (i + 2) a) (drop (i + 2) b) ≡ d
  sum_two h k =
      let q : i + 2 ≡ i + 1 + 1 = omega arith in
      rw q (dot_step (s ⊕ get_or a i nan ⊗ get_or b i nan) a b (i + 1) h k ∙ sum_again (omega arith) (omega arith))

  pub sum_done : min (length a) (length b) ≤ i → s ≡ d
  sum_done h = sym (dot_end s a b i h) ∙ e

-- a row of 2 or 3
module _ (row x : List Float) (long : length row ≡ length x) where
  two : 2 ≤ length x → dot_from (0ᶠ ⊕ get_or row 0 nan ⊗ get_or x 0 nan ⊕ get_or row 1 nan ⊗ get_or x 1 nan) (drop 2 row) (drop 2 x) ≡ dot_from 0ᶠ row x
  two h = sum_two row x 0ᶠ 0 refl (omega arith) (omega arith)

  pub short_two : length x ≡ 2 → 0ᶠ ⊕ get_or row 0 nan ⊗ get_or x 0 nan ⊕ get_or row 1 nan ⊗ get_or x 1 nan ≡ dot_from 0ᶠ row x
  short_two e = sum_done row x _ 2 (two (omega arith)) (omega arith)

  pub short_three : length x ≡ 3 → 0ᶠ ⊕ get_or row 0 nan ⊗ get_or x 0 nan ⊕ get_or row 1 nan ⊗ get_or x 1 nan ⊕ get_or row 2 nan ⊗ get_or x 2 nan ≡ dot_from 0ᶠ row x
  short_three e = sum_done row x _ 3 (sum_again row x _ 2 (two (omega arith)) (omega arith) (omega arith)) (omega arith)

-- ---- `dot_of` by the tests of the code

pub none : (a b : List Float) → min (length a) (length b) ≡ 0 → neg 0ᶠ ≡ dot_of a b
unfolding dot_of neg of_bits
none [] b h = refl
none (x ∷ a) [] h = refl
none (x ∷ a) (y ∷ b) h = absurd (omega (arith, h))

pub first_on : (a b : List Float) → 0 < length a → 0 < length b → dot_from (get_or a 0 nan ⊗ get_or b 0 nan) (drop 1 a) (drop 1 b) ≡ dot_of a b
unfolding dot_of
first_on [] b h k = absurd (omega (arith, h))
first_on (x ∷ a) [] h k = absurd (omega (arith, k))
first_on (x ∷ a) (y ∷ b) h k = refl

-- of four rows. What the test of their lengths says:
pub rows_fit : (a b c d x : List Float) → (ltb 0 (length x) && eqb (length a) (length x) && eqb (length b) (length x) && eqb (length c) (length x) && eqb (length d) (length x)) ≡ true
    → (0 < length x) × (length a ≡ length x) × (length b ≡ length x) × (length c ≡ length x) × (length d ≡ length x)
rows_fit a b c d x h =
    let n = length x in
    let p = (and-eq-true_iff (ltb 0 n && eqb (length a) n && eqb (length b) n && eqb (length c) n) (eqb (length d) n)).0 h in
    let q = (and-eq-true_iff (ltb 0 n && eqb (length a) n && eqb (length b) n) (eqb (length c) n)).0 p.0 in
    let r = (and-eq-true_iff (ltb 0 n && eqb (length a) n) (eqb (length b) n)).0 q.0 in
    let s = (and-eq-true_iff (ltb 0 n) (eqb (length a) n)).0 r.0 in
    (ltb-true 0 n s.0, eqb-true (length a) n s.1, eqb-true (length b) n r.1, eqb-true (length c) n q.1, eqb-true (length d) n p.1)

pub four_on : (a b c d x : List Float) {r : Four} → (0 < length x) × (length a ≡ length x) × (length b ≡ length x) × (length c ≡ length x) × (length d ≡ length x)
    → r ≡ four_from (record { a = get_or a 0 nan ⊗ get_or x 0 nan; b = get_or b 0 nan ⊗ get_or x 0 nan; c = get_or c 0 nan ⊗ get_or x 0 nan; d = get_or d 0 nan ⊗ get_or x 0 nan }) a b c d x 1
    → r ≡ four_of a b c d x
four_on a b c d x h e =
    let f : (l : List Float) → length l ≡ length x → dot_from (get_or l 0 nan ⊗ get_or x 0 nan) (drop 1 l) (drop 1 x) ≡ dot_of l x = λ l z. first_on l x (omega (arith, h.0)) h.0 in
    e ∙ (λ i. record { a = f a h.1 i; b = f b h.2 i; c = f c h.3 i; d = f d h.4 i })

-- ---- what the filling loops leave

pub copied : (dst src : List Float) → length dst ≡ length src → tab (λ k. get_or src k nan) (length dst) ≡ src
copied dst src e = tab_get_or src nan (length dst) (omega arith) ∙ take_all (length dst) src (omega arith)

pub multiplied : (n : ℕ) (mat x out : List Float) → length out ≡ n → tab (λ k. dot_from 0ᶠ (row_of n mat k) x) (length out) ≡ mv_of n mat x
unfolding mv_of
multiplied n mat x out e = rw e

-- a matrix of 2 or 3, from the products of its rows
module _ (n : ℕ) (mat x out : List Float) (long : length out ≡ n) {a b : Float} (p : a ≡ dot_from 0ᶠ (row_of n mat 0) x) (q : b ≡ dot_from 0ᶠ (row_of n mat 1) x) where
  abbrev product : ℕ → Float
  product k = dot_from 0ᶠ (row_of n mat k) x

  first_two : 2 ≤ n → FilledTo product out (set (set out 0 a) 1 b) 2
  first_two h = filled_turn product out (set out 0 a) 1 b (filled_turn product out out 0 a (filled_start product out) (omega arith) p) (omega arith) q

  pub short_all_two : 2 ≤ n → n ≤ 3 → (n ≡ 3 → ⊥) → set (set out 0 a) 1 b ≡ mv_of n mat x
  short_all_two h m k =
      let e : n ≡ 2 = omega (arith, k) in
      filled_done product out _ 2 (first_two h) (omega arith) ∙ multiplied n mat x out long

  pub short_all_three : {c : Float} → n ≡ 3 → c ≡ dot_from 0ᶠ (row_of n mat 2) x → set (set (set out 0 a) 1 b) 2 c ≡ mv_of n mat x
  short_all_three {c} e r =
      filled_done product out _ 3 (filled_turn product out _ 2 c (first_two (omega arith)) (omega arith) r) (omega arith) ∙ multiplied n mat x out long

-- four rows of the matrix
pub four_rows : (n i : ℕ) (mat x : List Float) {r : Four} {a b c d : List Float} → r ≡ four_from (record { a = 0ᶠ; b = 0ᶠ; c = 0ᶠ; d = 0ᶠ }) a b c d x 0
    → a ≡ row_of n mat i → b ≡ row_of n mat (i + 1) → c ≡ row_of n mat (i + 2) → d ≡ row_of n mat (i + 3) → r ≡ four_row_dots n mat x i
four_rows n i mat x e p q u w = e ∙ (λ j. record { a = dot_from 0ᶠ (p j) x; b = dot_from 0ᶠ (q j) x; c = dot_from 0ᶠ (u j) x; d = dot_from 0ᶠ (w j) x })

pub diagonal_turn : (n i : ℕ) (v mat₀ mat : List Float) → mat ≡ set_diag n v i mat₀ → set mat (i * n + i) (get_or v i nan) ≡ set_diag n v (i + 1) mat₀
unfolding set_diag
diagonal_turn n i v mat₀ mat e = rw (e, add-one)

pub diagonal_done : (n i : ℕ) (v mat₀ mat : List Float) → mat ≡ set_diag n v i mat₀ → i ≤ n → n ≤ i → mat ≡ set_diag n v n mat₀
diagonal_done n i v mat₀ mat e h k = let q : i ≡ n = omega arith in rw q at e

pub diagonal : (n : ℕ) (v out zeros : List Float) → length out ≡ n * n → zeros ≡ replicate (length out) 0ᶠ → set_diag n v n zeros ≡ diag_of n v
unfolding diag_of
diagonal n v out zeros e h = rw (h, e)

-- ---- tests of the code. `r` is what is_dimension answered.

pub small : (n : ℕ) (r : Bool) → r ≡ is_dimension n → not r ≡ false → n ≤ 32
small n r e t = dimension_most n (says_yes r (is_dimension n) e t)

pub square : (n : ℕ) → n ≤ 32 → n * n ≤ 1024
square n h = omega (arith, mul-le-mul h h)

pub row_small : (n i : ℕ) → n ≤ 32 → i < n → i * n + n ≤ 1024
row_small n i h k = omega (arith, row_in n i n k, square n h)

-- a conjunction of tests
pub both : (s t : Bool) → s ≡ true → t ≡ true → (s && t) ≡ true
both s t h k = rw (h, k)

-- ---- a part of one value many times

pub take_replicate {ℓ} : {X : Type ℓ} (n m : ℕ) (v : X) → n ≤ m → take n (replicate m v) ≡ replicate n v
take_replicate zero m v h = refl
take_replicate (suc n) zero v h = absurd (omega (arith, h))
take_replicate {X} (suc n) (suc m) v h = ap (λ (l : List X). v ∷ l) (take_replicate n m v (le_of_suc-le-suc h))
