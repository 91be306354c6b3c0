-- Laws of the definitions of Arr, for the proofs here and in the crates above. Assumes nothing.
use Rattle.std.proofs.Math.Bool.{and-eq-true_iff, true, false}
use Rattle.std.specs.Prelude.{Bool, ◌≡◌, List, [], ◌∷◌, ◌++◌, leb, ltb, Float, length, take, drop, set, replicate}
use Rattle.std.proofs.Math.Path.{refl, ap}
use Rattle.std.proofs.Common.{sym, ◌∙◌, append-nil, le_of_suc-le-suc, eq-or-lt_of_le, suc-mul, mul-le-mul_right, arith, length-append, drop_of_length-le, drop-cons, take-suc, get_or-set_same, ext_get_or}
use Rattle.std.proofs.Math.Logic.{⊎_elim}
use Prim.Native.Nat.{ℕ, zero, suc, ◌≤◌, ◌<◌, ◌+◌, ◌-◌, ◌*◌, min}
use Rattle.std.proofs.Math.Numerals.{add-one}
use borrow.Author.Tests.{ltb-true, ltb-false, leb-true, leb-false, eqb-true, eqb-false}
use Rattle.std.proofs.Math.Dec.{eqb}
use Rattle.std.specs.Float.{binary64}
use Rattle.std.specs.Float.Ieee.{nan}
use Rattle.std.specs.Float.Ieee.Fits.{mul-fits}
use Rattle.std.proofs.Math.ListN.{get_or, length-set, get_or-replicate, get_or-append}
use Rattle.std.proofs.lemmas.List.{length-replicate, replicate-append-replicate, set_at, get_or_at}
use Rattle.std.proofs.Math.Seq.{append_snoc, get_or-set_other}
use Rattle.numbers.specs.F64.{−0ᶠ, ◌⊕◌, ◌⊗◌, 0ᶠ, 1ᶠ}
use Rattle.numbers.specs.Arr.{dot_of, row_of, is_dimension, dot_from, tab, set_diag, diag_of}
use Rattle.numbers.specs.Pick.{pick}
use Rattle.numbers.specs.declared.arr.Four.{Four}
use Rattle.numbers.specs.laws.Values.{minus_zero_adds}
use Rattle.numbers.specs.laws.Pick.{hit, skip}

-- ---- sums of products

dot_nil : (s : Float) (a : List Float) → dot_from s a [] ≡ s
unfolding dot_from
dot_nil s [] = refl
dot_nil s (x ∷ a) = refl

-- one product more
pub dot_step : (s : Float) (a b : List Float) (i : ℕ) → i < length a → i < length b
    → dot_from (s ⊕ get_or a i nan ⊗ get_or b i nan) (drop (i + 1) a) (drop (i + 1) b) ≡ dot_from s (drop i a) (drop i b)
unfolding dot_from
dot_step s a b i h k = rw (add-one, drop-cons a i nan, drop-cons b i nan)

-- none left
pub dot_end : (s : Float) (a b : List Float) (i : ℕ) → min (length a) (length b) ≤ i → dot_from s (drop i a) (drop i b) ≡ s
unfolding dot_from
dot_end s a b i h = go (leb (length a) i) refl
  where
    go : (t : Bool) → leb (length a) i ≡ t → dot_from s (drop i a) (drop i b) ≡ s
    go true e = rw (drop_of_length-le a (leb-true (length a) i e))
    go false e =
        let l : length b ≤ i = omega (arith, leb-false (length a) i e) in
        rw (drop_of_length-le b l) (dot_nil s (drop i a))

-- ---- tables

module _ {ℓ} {X : Type ℓ} (f : ℕ → X) where
  pub length_tab : (n : ℕ) → length (tab f n) ≡ n
  unfolding tab
  length_tab zero = refl
  length_tab (suc n) = simp (length-append, length_tab n) (add-one n)

-- entry i of a table
pub tab_entry : (f : ℕ → Float) (n i : ℕ) → i < n → get_or (tab f n) i nan ≡ f i
unfolding tab
tab_entry f zero i h = absurd (omega (arith, h))
tab_entry f (suc n) i h =
    ⊎_elim
    (λ (e : i ≡ n). rw e (get_or_at (tab f n) (f n) [] nan n (length_tab f n)))
    (λ (l : i < n). get_or-append (tab f n) (f n ∷ []) nan i (rw (length_tab f n) l) ∙ tab_entry f n i l)
    (eq-or-lt_of_le (le_of_suc-le-suc h))

-- a list with the entries f i is their table
pub tab_ext : (f : ℕ → Float) (n : ℕ) (xs : List Float) → length xs ≡ n → ((i : ℕ) → i < n → get_or xs i nan ≡ f i) → xs ≡ tab f n
tab_ext f n xs l h = ext_get_or nan xs (tab f n) (l ∙ sym (length_tab f n)) (λ i k. let k' : i < n = rw (← l) k in h i k' ∙ sym (tab_entry f n i k'))

-- two tables of equal entries
pub tab_cong : (f g : ℕ → Float) (n : ℕ) → ((i : ℕ) → i < n → f i ≡ g i) → tab f n ≡ tab g n
tab_cong f g n h = tab_ext g n (tab f n) (length_tab f n) (λ i k. tab_entry f n i k ∙ h i k)

-- the table of a list's elements is the list
pub tab_get_or {ℓ} : {X : Type ℓ} (xs : List X) (d : X) (n : ℕ) → n ≤ length xs → tab (λ i. get_or xs i d) n ≡ take n xs
unfolding tab
tab_get_or xs d zero h = refl
tab_get_or xs d (suc n) h = rw (tab_get_or xs d n (omega arith), take-suc xs n d)

pub tab_replicate {ℓ} : {X : Type ℓ} (v : X) (n : ℕ) → tab (λ i. v) n ≡ replicate n v
unfolding tab
tab_replicate v zero = refl
tab_replicate v (suc n) = rw (tab_replicate v n, replicate-append-replicate n 1 v, add-one)

-- ---- four rows at a time

-- four rows' sums, each from its own start: the products with x from column j on
abbrev pub four_from : Four → List Float → List Float → List Float → List Float → List Float → ℕ → Four
four_from s a b c d x j =
    record {
      a = dot_from s.a (drop j a) (drop j x);
      b = dot_from s.b (drop j b) (drop j x);
      c = dot_from s.c (drop j c) (drop j x);
      d = dot_from s.d (drop j d) (drop j x);
    }

-- the four rows from row i on, times x
abbrev pub four_row_dots : ℕ → List Float → List Float → ℕ → Four
four_row_dots n mat x i =
    record {
      a = dot_from 0ᶠ (row_of n mat i) x;
      b = dot_from 0ᶠ (row_of n mat (i + 1)) x;
      c = dot_from 0ᶠ (row_of n mat (i + 2)) x;
      d = dot_from 0ᶠ (row_of n mat (i + 3)) x;
    }

-- ---- a loop that fills a list from the front with f 0, f 1, ..: `xs₀` before the loop, `xs` when i elements are filled

pub record FilledTo {ℓ} {X : Type ℓ} (f : ℕ → X) (xs₀ xs : List X) (i : ℕ) : Type ℓ where
  pub within : i ≤ length xs₀
  pub long : length xs ≡ length xs₀
  pub is : xs ≡ tab f i ++ drop i xs₀

module _ {ℓ} {X : Type ℓ} (f : ℕ → X) (xs₀ : List X) where
  pub filled_start : FilledTo f xs₀ xs₀ 0
  unfolding tab
  filled_start = record { within = omega arith; long = refl; is = refl }

  stored : (i : ℕ) (v : X) → i < length xs₀ → set (tab f i ++ drop i xs₀) i v ≡ tab f i ++ (v ∷ []) ++ drop (suc i) xs₀
  stored i v l =
      rw (drop-cons xs₀ i v, set_at (tab f i) (get_or xs₀ i v) (drop (suc i) xs₀) v i (length_tab f i))
      (sym (append_snoc (tab f i) v (drop (suc i) xs₀)))

  pub filled_turn : (xs : List X) (i : ℕ) (v : X) → FilledTo f xs₀ xs i → i < length xs₀ → v ≡ f i → FilledTo f xs₀ (set xs i v) (i + 1)
  unfolding tab
  filled_turn xs i v h l e = record {
    within = omega arith;
    long = simp length-set h.long;
    is = rw (h.is, add-one, ← e) (stored i v l);
  }

  pub filled_four : (xs : List X) (i : ℕ) (a b c d : X) → FilledTo f xs₀ xs i → i + 4 ≤ length xs₀ → a ≡ f i → b ≡ f (i + 1) → c ≡ f (i + 2) → d ≡ f (i + 3)
      → FilledTo f xs₀ (set (set (set (set xs i a) (i + 1) b) (i + 2) c) (i + 3) d) (i + 4)
  filled_four xs i a b c d h l p q r s =
      let e₂ : i + 1 + 1 ≡ i + 2 = omega arith in
      let e₃ : i + 2 + 1 ≡ i + 3 = omega arith in
      let e₄ : i + 3 + 1 ≡ i + 4 = omega arith in
      let two = rw e₂ at (filled_turn _ (i + 1) b (filled_turn xs i a h (omega arith) p) (omega arith) q) in
      let three = rw e₃ at (filled_turn _ (i + 2) c two (omega arith) r) in
      rw e₄ at (filled_turn _ (i + 3) d three (omega arith) s)

  pub filled_done : (xs : List X) (i : ℕ) → FilledTo f xs₀ xs i → length xs₀ ≤ i → xs ≡ tab f (length xs₀)
  filled_done xs i h l =
      let e : i ≡ length xs₀ = omega (arith, h.within) in
      h.is ∙ rw (drop_of_length-le xs₀ l, append-nil, e)

-- ---- rows

-- row i of m rows of n ends within the table
pub row_in : (n i m : ℕ) → i < m → i * n + n ≤ m * n
row_in n i m h = omega (arith, suc-mul i n, mul-le-mul_right n h)

-- the part of a table that begins at i × n and has n numbers is row i
pub row_part : (n i at end : ℕ) (l : List Float) → at ≡ i * n → end ≡ at + n → take (end - at) (drop at l) ≡ row_of n l i
row_part n i at end l p q = let m : end - at ≡ n = omega arith in rw (m, p)

-- equal places with columns below n are in one row
row_le : (n i j k l : ℕ) → l < n → i * n + j ≡ k * n + l → i ≤ k
row_le n i j k l g e = go (ltb k i) refl
  where
    go : (t : Bool) → ltb k i ≡ t → i ≤ k
    go true q = absurd (omega (arith, row_in n k i (ltb-true k i q)))
    go false q = ltb-false k i q

pub row_unique : (n i j k l : ℕ) → j < n → l < n → i * n + j ≡ k * n + l → i ≡ k
row_unique n i j k l h g e = omega (arith, row_le n i j k l g e, row_le n k l i j h (sym e))

-- ---- the diagonal

module _ (n : ℕ) (v : List Float) where
  pub length_set_diag : (k : ℕ) (mat : List Float) → length (set_diag n v k mat) ≡ length mat
  unfolding set_diag
  length_set_diag zero mat = refl
  length_set_diag (suc k) mat = simp length-set (length_set_diag k mat)

  on : (k : ℕ) (mat : List Float) (i : ℕ) → k ≤ n → n * n ≤ length mat → i < k → get_or (set_diag n v k mat) (i * n + i) nan ≡ get_or v i nan
  unfolding set_diag
  on zero mat i l g h = absurd (omega (arith, h))
  on (suc k) mat i l g h =
      ⊎_elim
      (λ (e : i ≡ k). rw e
      (get_or-set_same (set_diag n v k mat) (k * n + k) (get_or v k nan) nan (rw (length_set_diag k mat) (omega (arith, row_in n k n (omega arith))))))
      (λ (lt : i < k).
      get_or-set_other (set_diag n v k mat) (k * n + k) (i * n + i) (get_or v k nan) nan
      (λ q. absurd (omega (arith, row_unique n i i k k (omega arith) (omega arith) q)))
      ∙ on k mat i (omega arith) g lt)
      (eq-or-lt_of_le (le_of_suc-le-suc h))

  off : (k : ℕ) (mat : List Float) (i j : ℕ) → k ≤ n → j < n → (i ≡ j → ⊥) → get_or (set_diag n v k mat) (i * n + j) nan ≡ get_or mat (i * n + j) nan
  unfolding set_diag
  off zero mat i j l h g = refl
  off (suc k) mat i j l h g =
      get_or-set_other (set_diag n v k mat) (k * n + k) (i * n + j) (get_or v k nan) nan
      (λ q.
      let e : i ≡ k = row_unique n i j k k h (omega arith) q in
      let p : i * n ≡ k * n = ap (λ (z : ℕ). z * n) e in
      g (omega arith))
      ∙ off k mat i j (omega arith) h g

  -- what from_diag writes, by row and column
  pub diag_at : (i j : ℕ) → i < n → j < n → get_or (diag_of n v) (i * n + j) nan ≡ pick (eqb i j) (get_or v i nan) 0ᶠ
  unfolding diag_of
  diag_at i j h g = go (eqb i j) refl
    where
      go : (t : Bool) → eqb i j ≡ t → get_or (set_diag n v n (replicate (n * n) 0ᶠ)) (i * n + j) nan ≡ pick (eqb i j) (get_or v i nan) 0ᶠ
      go true e =
          hit (eqb i j) (get_or v i nan) 0ᶠ _ e
          (rw (← eqb-true i j e) (on n (replicate (n * n) 0ᶠ) i (omega arith) (rw (length-replicate (n * n) 0ᶠ) (omega arith)) h))
      go false e =
          skip (eqb i j) (get_or v i nan) 0ᶠ _ e
          (off n (replicate (n * n) 0ᶠ) i j (omega arith) g (eqb-false i j e)
          ∙ get_or-replicate (n * n) (i * n + j) 0ᶠ nan (omega (arith, row_in n i n h)))

-- what eye writes
pub eye_at : (n i j : ℕ) → i < n → j < n → get_or (diag_of n (replicate n 1ᶠ)) (i * n + j) nan ≡ pick (eqb i j) 1ᶠ 0ᶠ
eye_at n i j h g = diag_at n (replicate n 1ᶠ) i j h g ∙ rw (get_or-replicate n i 1ᶠ nan h)

-- ---- what the test of a dimension says

pub dimension_least : (n : ℕ) → is_dimension n ≡ true → 2 ≤ n
dimension_least n h = leb-true 2 n ((and-eq-true_iff (leb 2 n) (leb n 32)).0 h).0

pub dimension_most : (n : ℕ) → is_dimension n ≡ true → n ≤ 32
dimension_most n h = leb-true n 32 ((and-eq-true_iff (leb 2 n) (leb n 32)).0 h).1

-- ---- a sum from the first product on is one begun at minus zero

pub dot_minus_zero : (a b : List Float) → dot_of a b ≡ dot_from −0ᶠ a b
unfolding dot_of dot_from
dot_minus_zero [] b = refl
dot_minus_zero (x ∷ a) [] = refl
dot_minus_zero (x ∷ a) (y ∷ b) = ap (λ (s : Float). dot_from s a b) (sym (minus_zero_adds (x ⊗ y) (mul-fits binary64 x y)))
