-- Laws of the loops that factor, for the proofs of ldlt_mgr alone. Assumes nothing.
use mathlib.Core.Path.{◌≡◌, refl, sym, ap, ◌∙◌}
use Rattle.std.specs.Prelude.{Ok, Some, None, Result, Option}
use Rattle.numbers.specs.declared.refusal.Refusal.{Refusal}
use mathlib.Core.Bool.{Bool, true, false}
use mathlib.Core.Logic.{⊎_elim}
use mathlib.Core.List.{List}
use Prim.Native.Nat.{ℕ, suc, ◌≤◌, ◌<◌, ◌+◌, ◌-◌, ◌*◌, suc-le-suc}
use native.Mathlib.Nat.{sub-zero, le_of_suc-le-suc, eq-or-lt_of_le}
use native.Mathlib.Numerals.{add-one}
use native.Mathlib.Omega.{arith}
use borrow.Author.Tests.{eq-eqb, ne_eqb}
use lib.Dec.{eqb}
use lib.ListN.{length, set, length-set}
use lib.Ieee.{Float}
use Rattle.numbers.specs.F64.{◌⊕◌, ◌⊖◌, ◌⊗◌, ◌⊘◌, 0ᶠ}
use Rattle.numbers.specs.Pick.{pick}
use Rattle.numbers.specs.laws.Pick.{hit, skip}
use Rattle.oracles.specs.Matrix.{at, total}
use Rattle.oracles.specs.LdltMgr.{taken, reduced, stored, stops, stop_from, stop_of, filled, position_of, factor_rows, factor_of, factored}
use Rattle.oracles.specs.laws.Matrix.{place_in, at_set_same, at_set_other, total_cong}
use Rattle.oracles.specs.laws.Ldlt.{FactoredTo, stored_low, stored_high, taken_total, length_filled, filled_in, filled_ext, filled_zero, filled_suc, stop_here, stop_later}
use Rattle.oracles.specs.declared.ldlt_mgr.Pos.{Pos}

-- ---- a row

-- the loop of row i: `storage₀` before, `storage` and `diag` when its columns below j, and the rows below j of column i, are written
pub record RowTo (A : ℕ → ℕ → Float) (m : ℕ) (storage₀ : List Float) (i : ℕ) (storage : List Float) (diag : Float) (j : ℕ) : Type 0 where
  pub within : j ≤ i
  pub long : length storage ≡ length storage₀
  pub pivot : diag ≡ reduced A i j
  pub factored : FactoredTo A m storage i
  pub row : (k : ℕ) → k < j → at m storage i k ≡ stored A i k
  pub column : (k : ℕ) → k < j → at m storage k i ≡ stored A k i
  pub rest : (r c : ℕ) → c < m → (r ≤ i → c ≤ i → ⊥) → at m storage r c ≡ at m storage₀ r c

pub row_start : (A : ℕ → ℕ → Float) (m : ℕ) (storage : List Float) (i : ℕ) (diag : Float) → FactoredTo A m storage i → diag ≡ A i 0 → RowTo A m storage i storage diag 0
unfolding reduced
row_start A m storage i diag h e = record {
  within = omega arith;
  long = refl;
  pivot = e;
  factored = h;
  row = λ k l. absurd (omega (arith, l));
  column = λ k l. absurd (omega (arith, l));
  rest = λ r c l apart. refl;
}

-- one column more: diag is kept at (j, i), and divided by the pivot p of column j at (i, j)
abbrev kept : ℕ → List Float → ℕ → Float → ℕ → List Float
kept m storage i diag j = set storage (j * m + i) diag

abbrev both : ℕ → List Float → ℕ → Float → ℕ → Float → List Float
both m storage i diag j p = set (kept m storage i diag j) (i * m + j) (diag ⊘ p)

module _ (A : ℕ → ℕ → Float) (m : ℕ) (storage₀ : List Float) (i : ℕ) (storage : List Float) (diag : Float) (j : ℕ) (p : Float)
    (h : RowTo A m storage₀ i storage diag j) (l : j < i) (a : i < m) (b : length storage₀ ≡ m * m) (e : p ≡ at m (kept m storage i diag j) j j) where
  others : (r c : ℕ) → c < m → (r ≡ i → c ≡ j → ⊥) → (r ≡ j → c ≡ i → ⊥) → at m (both m storage i diag j p) r c ≡ at m storage r c
  others r c k x y =
      at_set_other m (kept m storage i diag j) i j r c (diag ⊘ p) (omega arith) k x
      ∙ at_set_other m storage j i r c diag a k y

  divisor : p ≡ reduced A j j
  divisor =
      e ∙ at_set_other m storage j i j j diag a (omega arith) (λ x y. absurd (omega (arith, y)))
      ∙ h.factored.is j j l l ∙ stored_high A j j (omega arith)

  new_row : at m (both m storage i diag j p) i j ≡ stored A i j
  new_row =
      at_set_same m (kept m storage i diag j) i j (diag ⊘ p) (rw (length-set storage (j * m + i) diag, h.long, b) (place_in m m i j a (omega arith)))
      ∙ rw (h.pivot, divisor) (sym (stored_low A i j l))

  new_column : at m (both m storage i diag j p) j i ≡ stored A j i
  new_column =
      at_set_other m (kept m storage i diag j) i j j i (diag ⊘ p) (omega arith) a (λ x y. absurd (omega (arith, x)))
      ∙ at_set_same m storage j i diag (rw (h.long, b) (place_in m m j i (omega arith) a))
      ∙ h.pivot ∙ sym (stored_high A j i (omega arith))

  row_next : (k : ℕ) → k < j + 1 → at m (both m storage i diag j p) i k ≡ stored A i k
  row_next k g =
      ⊎_elim
      (λ (x : k ≡ j). rw x new_row)
      (λ (x : k < j). others i k (omega arith) (λ u v. omega (arith, v)) (λ u v. omega (arith, u)) ∙ h.row k x)
      (eq-or-lt_of_le (le_of_suc-le-suc (rw add-one at g)))

  column_next : (k : ℕ) → k < j + 1 → at m (both m storage i diag j p) k i ≡ stored A k i
  column_next k g =
      ⊎_elim
      (λ (x : k ≡ j). rw x new_column)
      (λ (x : k < j). others k i a (λ u v. omega (arith, v)) (λ u v. omega (arith, u)) ∙ h.column k x)
      (eq-or-lt_of_le (le_of_suc-le-suc (rw add-one at g)))

  factored_next : FactoredTo A m (both m storage i diag j p) i
  factored_next = record {
    is = λ r c x y. others r c (omega arith) (λ u v. omega (arith, u)) (λ u v. omega (arith, v)) ∙ h.factored.is r c x y;
  }

  -- column j + 1 of the rows above it
  above : (k : ℕ) → k < j + 1 → at m (both m storage i diag j p) k (j + 1) ≡ reduced A (suc j) k
  above k g =
      ⊎_elim
      (λ (x : suc j ≡ i). rw (add-one, x) (column_next k g ∙ stored_high A k i (omega arith)))
      (λ (x : suc j < i). rw add-one (factored_next.is k (suc j) (omega arith) x ∙ stored_high A k (suc j) (omega arith)))
      (eq-or-lt_of_le l)

  sum_next : total ◌⊕◌ 0ᶠ (λ k. at m (both m storage i diag j p) i k ⊗ at m (both m storage i diag j p) k (j + 1)) (j + 1) ≡ taken A i (suc j) (suc j)
  sum_next =
      total_cong ◌⊕◌ 0ᶠ _ (λ k. reduced A i k ⊘ reduced A k k ⊗ reduced A (suc j) k) (j + 1)
      (λ k g. rw (row_next k g, stored_low A i k (omega arith), above k g))
      ∙ rw add-one (sym (taken_total A i (suc j) (suc j)))

  pub row_turn : (d : Float)
      → d ≡ A i (j + 1) ⊖ total ◌⊕◌ 0ᶠ (λ k. at m (both m storage i diag j p) i k ⊗ at m (both m storage i diag j p) k (j + 1)) (j + 1)
      → RowTo A m storage₀ i (both m storage i diag j p) d (j + 1)
  unfolding reduced
  row_turn d f = record {
    within = omega arith;
    long = simp length-set h.long;
    pivot = f ∙ rw (sum_next, add-one);
    factored = factored_next;
    row = row_next;
    column = column_next;
    rest = λ r c k apart. others r c k (λ u v. apart (omega arith) (omega arith)) (λ u v. apart (omega arith) (omega arith)) ∙ h.rest r c k apart;
  }

-- the pivot closes the row
module _ (A : ℕ → ℕ → Float) (m : ℕ) (storage₀ : List Float) (i : ℕ) (storage : List Float) (diag : Float) (j : ℕ)
    (h : RowTo A m storage₀ i storage diag j) (l : i ≤ j) (a : i < m) (b : length storage₀ ≡ m * m) where
  pub pivot_done : diag ≡ reduced A i i
  pivot_done = let q : j ≡ i = omega (arith, h.within) in h.pivot ∙ rw q

  same : at m (set storage (i * m + i) diag) i i ≡ stored A i i
  same =
      at_set_same m storage i i diag (rw (h.long, b) (place_in m m i i a a))
      ∙ pivot_done ∙ sym (stored_high A i i (omega arith))

  other : (r c : ℕ) → c < m → (r ≡ i → c ≡ i → ⊥) → at m (set storage (i * m + i) diag) r c ≡ at m storage r c
  other r c k x = at_set_other m storage i i r c diag a k x

  inside : (r c : ℕ) → c < m → r < suc i → c < suc i → at m (set storage (i * m + i) diag) r c ≡ stored A r c
  inside r c k x y =
      ⊎_elim
      (λ (e : r ≡ i).
      ⊎_elim
      (λ (f : c ≡ i). rw (e, f) same)
      (λ (f : c < i). rw e (other i c k (λ u v. omega (arith, v)) ∙ h.row c (omega arith)))
      (eq-or-lt_of_le (le_of_suc-le-suc y)))
      (λ (e : r < i).
      ⊎_elim
      (λ (f : c ≡ i). rw f (other r i a (λ u v. omega (arith, u)) ∙ h.column r (omega arith)))
      (λ (f : c < i). other r c k (λ u v. omega (arith, u)) ∙ h.factored.is r c e f)
      (eq-or-lt_of_le (le_of_suc-le-suc y)))
      (eq-or-lt_of_le (le_of_suc-le-suc x))

  pub row_done : set storage (i * m + i) diag ≡ filled A m storage₀ (suc i)
  row_done =
      filled_ext A m storage₀ (suc i) (set storage (i * m + i) diag) (length-set storage (i * m + i) diag ∙ h.long ∙ b)
      (λ r c x y u v. inside r c y u v)
      (λ r c x y apart. other r c y (λ u v. apart (omega arith) (omega arith)) ∙ h.rest r c y (λ u v. apart (suc-le-suc u) (suc-le-suc v)))

-- ---- the rows

-- the loop over the rows: `storage₀` before, `storage` when the rows below i are written, and the stop is not below i
pub record RowsTo (A : ℕ → ℕ → Float) (m : ℕ) (storage₀ storage : List Float) (i : ℕ) : Type 0 where
  pub within : i ≤ m
  pub is : storage ≡ filled A m storage₀ i
  pub left : stop_from A (m - i) i ≡ stop_of A m

module _ (A : ℕ → ℕ → Float) (m : ℕ) (storage₀ : List Float) where
  pub rows_start : length storage₀ ≡ m * m → RowsTo A m storage₀ storage₀ 0
  unfolding stop_of
  rows_start l = record { within = omega arith; is = filled_zero A m storage₀ l; left = rw sub-zero }

  answered : (e : ℕ) (storage : List Float) → stop_of A m ≡ e → storage ≡ filled A m storage₀ (pick (eqb e 0) m e) → (e, storage) ≡ factor_rows A m storage₀
  unfolding factor_rows
  answered e storage h f = rw (h, f)

  module _ (storage : List Float) (i : ℕ) (h : RowsTo A m storage₀ storage i) where
    pub rows_long : length storage ≡ m * m
    rows_long = ap length h.is ∙ length_filled A m storage₀ i

    pub rows_factored : i < m → FactoredTo A m storage i
    rows_factored l = record { is = λ r c x y. rw h.is (filled_in A m storage₀ i r c (omega arith) (omega arith) x y) }

    -- row i is written too, and diag is its pivot
    module _ (next : List Float) (diag : Float) (l : i < m) (e : next ≡ filled A m storage (suc i)) (f : diag ≡ reduced A i i) where
      written : next ≡ filled A m storage₀ (suc i)
      written = e ∙ rw h.is (filled_suc A m storage₀ i)

      one_less : m - i ≡ suc (m - suc i)
      one_less = omega arith

      pub rows_turn : stops diag ≡ false → RowsTo A m storage₀ next (i + 1)
      rows_turn t =
          record {
            within = omega arith;
            is = rw add-one written;
            left = rw add-one (sym (stop_later A (m - suc i) i (rw (← f) t)) ∙ rw (← one_less) h.left);
          }

      pub rows_stop : stops diag ≡ true → (i + 1, next) ≡ factor_rows A m storage₀
      rows_stop t =
          answered (i + 1) next (sym h.left ∙ rw (one_less, add-one) (stop_here A (m - suc i) i (rw (← f) t)))
          (rw add-one (written ∙ ap (filled A m storage₀) (skip _ _ _ _ (ne_eqb (suc i) 0 (λ q. omega (arith, q))) refl)))

    pub rows_done : m ≤ i → (0, storage) ≡ factor_rows A m storage₀
    unfolding stop_from
    rows_done l =
        let q : i ≡ m = omega (arith, h.within) in
        let z : m - i ≡ 0 = omega arith in
        answered 0 storage (sym h.left ∙ rw z) (h.is ∙ ap (filled A m storage₀) (q ∙ hit _ _ _ _ (eq-eqb 0 0 refl) refl))

-- the answer by the stop
module _ (A : ℕ → ℕ → Float) (m : ℕ) (storage : List Float) (e : ℕ) (out : List Float) (h : (e, out) ≡ factor_rows A m storage) where
  pub definite : e ≡ 0 → (None, out) ≡ factored A m storage
  definite z = rw (← h) (ap (λ (x : Option Pos). (x, out)) (hit _ _ _ _ (eq-eqb e 0 z) refl))

  pub stopped_at : (e ≡ 0 → ⊥) → (Some (position_of e), out) ≡ factored A m storage
  stopped_at z = rw (← h) (ap (λ (x : Option Pos). (x, out)) (skip _ _ _ _ (ne_eqb e 0 z) refl))

pub said_of : (A : ℕ → ℕ → Float) (m : ℕ) (storage : List Float) (w : Option Pos × List Float) → w ≡ factored A m storage → ◌≡◌ {A = Result (Option Pos) Refusal × List Float} (Ok w.0, w.1) (factor_of A m storage)
unfolding factor_of
said_of A m storage w e = ap (λ (x : Option Pos × List Float). (Ok x.0, x.1)) e

-- the stop e, from what is answered by it
pub none_is : (e : ℕ) → ◌≡◌ {A = Option Pos} None (pick (eqb e 0) None (Some (position_of e))) → eqb e 0 ≡ true
unfolding pick
none_is e h = go (eqb e 0) h
  where
    go : (t : Bool) → ◌≡◌ {A = Option Pos} None (pick t None (Some (position_of e))) → t ≡ true
    go true q = refl
    go false q = absurd (let z : ◌≡◌ {A = ℕ} 0 1 = cc in omega arith)

pub some_is : (e : ℕ) (pos : Pos) → ◌≡◌ {A = Option Pos} (Some pos) (pick (eqb e 0) None (Some (position_of e))) → (eqb e 0 ≡ false) × (pos ≡ position_of e)
unfolding pick
some_is e pos h = go (eqb e 0) h
  where
    go : (t : Bool) → ◌≡◌ {A = Option Pos} (Some pos) (pick t None (Some (position_of e))) → (t ≡ false) × (pos ≡ position_of e)
    go true q = absurd (let z : ◌≡◌ {A = ℕ} 0 1 = cc in omega arith)
    go false q = (refl, cc)
