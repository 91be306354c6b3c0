-- The turns of the loops of ell_factors. Assumes nothing.
use mathlib.Core.Path.{◌≡◌, refl, sym, ap, ◌∙◌}
use mathlib.Core.List.{List, ◌∷◌, ◌++◌}
use mathlib.Core.Logic.{⊎_elim}
use Prim.Native.Nat.{ℕ, zero, suc, ◌≤◌, ◌<◌, ◌+◌, ◌-◌, ◌*◌}
use native.Mathlib.Nat.{zero-add, eq-or-lt_of_le}
use native.Mathlib.Numerals.{add-one}
use native.Mathlib.Omega.{arith}
use borrow.Author.Tests.{ltb-true, ltb-false, eqb-true, eqb-false, eq-eqb, ne_eqb, lt-ltb, le-ltb}
use borrow.Rule.Slice.PartMut.{put_mid}
use lib.Dec.{ltb, eqb}
use lib.Ieee.{Float, nan}
use lib.ListN.{length, take, drop, set, length-drop, length-append, get_or-append}
use lib.Seq.{get_or_at, get_or-append-add, get_or-take, get_or-drop, get_or-set_same, get_or-set_other, set_at, append_snoc, take_all, take-suc, length-take-le}
use Rattle.numbers.specs.F64.{◌⊕◌, ◌⊖◌, ◌⊗◌, ◌⊘◌}
use Rattle.numbers.specs.Pick.{pick}
use Rattle.numbers.specs.Arr.{tab}
use Rattle.numbers.specs.laws.Arr.{length_tab, FilledTo, filled_turn, tab_entry, tab_ext, tab_cong}
use Rattle.numbers.specs.laws.Pick.{skip, is_hit, is_skip, both_ways, pick_cong}
use Rattle.oracles.specs.Matrix.{nth, at, total}
use Rattle.oracles.specs.laws.Matrix.{total_turn, total_cong}
use Rattle.oracles.specs.laws.Loop.{VectorOf, MatrixOf, swept, sweep_start, sweep_left, sweep_past, sweep_turn, swept_by, by_start, by_left, by_past, by_done, part_long, part_entry, part_turn}
use Rattle.oracles.specs.EllStable.{forward, inv_ml_g_of, lowered, backward}
use Rattle.oracles.specs.laws.EllStable.{solved_back, column_taken, row_updated, less_columns, t_after, factor_at, factors_after, forward_total}

-- ---- a row from its diagonal on, whose first entry is written before the others

abbrev pub updated_from : Float → List Float → List Float → ℕ → Float
updated_from beta2 v first l = pick (eqb l 0) (nth first l) (nth first l ⊕ beta2 ⊗ nth v l)

pub row_done : (row : List Float) (ratio beta2 : Float) (v : List Float) → length row ≡ length v → 0 < length row
    → tab (updated_from beta2 v (set row 0 (nth row 0 ⊗ ratio))) (length v) ≡ row_updated row ratio beta2 v
unfolding row_updated
row_done row ratio beta2 v h p =
    ap (tab _) (sym h)
    ∙ tab_cong _ _ (length row)
    (λ k b. pick_cong (eqb k 0)
    (λ q. let z : k ≡ 0 = eqb-true k 0 q in rw z (get_or-set_same row 0 (nth row 0 ⊗ ratio) nan p))
    (λ q. rw (get_or-set_other row 0 k (nth row 0 ⊗ ratio) nan (eqb-false k 0 q))))

-- ---- every row of `forward`

pub column_two : (f : ℕ → Float) (xs₀ xs : List Float) (j : ℕ) (a b : Float) → FilledTo f xs₀ xs j → j + 1 < length xs₀ → a ≡ f j → b ≡ f (j + 1)
    → FilledTo f xs₀ (set (set xs j a) (j + 1) b) (j + 2)
column_two f xs₀ xs j a b h l p q =
    let e : j + 1 + 1 ≡ j + 2 = omega arith in
    rw e at (filled_turn f xs₀ _ (j + 1) b (filled_turn f xs₀ xs j a h (omega arith) p) l q)

pub column_done : (f : ℕ → Float) (xs₀ xs : List Float) (i j : ℕ) → FilledTo f xs₀ xs j → j ≡ i → xs ≡ tab f i ++ drop i xs₀
column_done f xs₀ xs i j h e = rw e at h.is

abbrev pub lowered_to : ℕ → List Float → List Float → ℕ → ℕ → ℕ → Float
lowered_to n mq g = swept_by (λ r c. r) (λ r c. pick (ltb c r) (at n mq c r ⊗ inv_ml_g_of n mq g c) (at n mq r c)) (λ r c. at n mq r c)

abbrev pub solved : ℕ → List Float → List Float → ℕ → ℕ → Float
solved n mq g = swept (inv_ml_g_of n mq g) (λ k. nth g k)

pub lowered_start : (n : ℕ) (mq g : List Float) → length mq ≡ n * n → MatrixOf n (lowered_to n mq g 1) mq
lowered_start n mq g l =
    by_start n (λ r c. r) _ _ 1 mq l (λ r c. refl) (λ r c _ _ m. sym (is_skip (ltb c r) (at n mq c r ⊗ inv_ml_g_of n mq g c) (at n mq r c) (le-ltb c r (omega (arith, m)))))

pub solved_start : (n : ℕ) (mq g : List Float) → length g ≡ n → VectorOf n (solved n mq g 1) g
unfolding inv_ml_g_of forward
solved_start n mq g l = sweep_start n _ _ 1 g l (λ k b. refl) (λ k b. let z : k ≡ 0 = omega (arith, b) in rw z)

module _ (n : ℕ) (mq₀ g : List Float) (i : ℕ) (mq w : List Float) (h : MatrixOf n (lowered_to n mq₀ g i) mq) (s : VectorOf n (solved n mq₀ g i) w) (l : i < n) where
  product : (k : ℕ) → k < i → at n mq k i ⊗ nth w k ≡ at n mq₀ k i ⊗ inv_ml_g_of n mq₀ g k
  product k b =
      rw (by_past n _ _ _ i mq h k i (omega arith) l b ∙ is_skip (ltb i k) (at n mq₀ i k ⊗ inv_ml_g_of n mq₀ g i) (at n mq₀ k i) (le-ltb i k (omega arith)), sweep_past n _ _ i w s k b (omega arith))

  -- with column i of the upper triangle in `column`
  module _ (column₀ column : List Float) (e : column ≡ tab (λ j. at n mq j i) i ++ drop i column₀) where
    abbrev row : List Float
    row = take (i * n + i - i * n) (drop (i * n) mq)

    lower_long : length row ≡ i
    lower_long = part_long n _ _ i mq h 0 (i * n) (i * n + i - i * n) l (omega arith) (omega arith) ∙ omega arith

    taken : (k : ℕ) → k < i → nth column k ⊗ nth w k ≡ at n mq₀ k i ⊗ inv_ml_g_of n mq₀ g k
    taken k b =
        let q : nth column k ≡ at n mq k i = ap (λ (z : List Float). nth z k) e ∙ get_or-append (tab _ i) (drop i column₀) nan k (rw (length_tab _ i) b) ∙ tab_entry _ i k b in
        rw q (product k b)

    -- what `forward_row` requires
    pub row_fits : length column₀ ≡ n → (length row ≤ length column) × (length row ≤ length w)
    row_fits m =
        let q : length column ≡ i + (n - i) = ap length e ∙ simp (length-append, length_tab, length-drop, m) in
        (omega (arith, lower_long, q), omega (arith, lower_long, s.long))

    pub lowered_turn : (row' : List Float) → row' ≡ tab (λ j. nth column j ⊗ nth w j) (length row) → MatrixOf n (lowered_to n mq₀ g (i + 1)) (put_mid (i * n) (i * n + i - i * n) mq row')
    lowered_turn row' y =
        part_turn n _ _ i mq h 0 (i * n) (i * n + i - i * n) l (omega arith) (omega arith)
        row' (ap length y ∙ length_tab _ _ ∙ part_long n _ _ i mq h 0 (i * n) (i * n + i - i * n) l (omega arith) (omega arith))
        (λ c m. let b : c < i = omega arith in
        ap (λ (r : List Float). nth r c) y ∙ tab_entry _ _ c (omega (arith, lower_long)) ∙ taken c b
        ∙ rw (zero-add c) (sym (is_hit (ltb c i) _ _ (lt-ltb c i b))))
        (λ c m q. both_ways (ltb c i) (λ t. absurd (q (omega arith) (omega (arith, ltb-true c i t)))) (λ _. refl))

    pub solved_turn : (v : Float) → v ≡ total ◌⊖◌ (nth w i) (λ j. nth column j ⊗ nth w j) (length row) → VectorOf n (solved n mq₀ g (i + 1)) (set w i v)
    unfolding inv_ml_g_of
    solved_turn v y =
        sweep_turn n _ _ i w s v l
        (y ∙ rw (lower_long, sweep_left n _ _ i w s i (omega arith) l) (total_cong ◌⊖◌ (nth g i) _ _ i taken) ∙ sym (forward_total n mq₀ g i i))

pub lowered_done : (n : ℕ) (mq₀ g : List Float) (i : ℕ) (mq : List Float) → MatrixOf n (lowered_to n mq₀ g i) mq → n ≤ i → mq ≡ lowered n mq₀ g
unfolding lowered
lowered_done n mq₀ g i mq h l = by_done n _ _ _ i mq h (λ r c a b k. absurd (omega arith))

-- ---- every row of `backward`: below i the vector is as it was, from i on it is solved

pub back_rows_start : (n : ℕ) (mq z : List Float) → 1 ≤ n → length z ≡ n → z ≡ take (n - 1) z ++ backward n mq z (n - (n - 1))
unfolding backward total
back_rows_start n mq z h l =
    let one : n - (n - 1) ≡ 1 = omega arith in
    let all : suc (n - 1) ≡ n = omega arith in
    rw one (sym (take_all n z (omega arith)) ∙ ap (λ (k : ℕ). take k z) (sym all) ∙ take-suc z (n - 1) nan (omega arith))

-- row p, where `after` stands from p + 1 on
module _ (z q after : List Float) (p : ℕ) (e : q ≡ take (p + 1) z ++ after) (h : p < length z) where
  split : q ≡ take p z ++ nth z p ∷ after
  split = e ∙ ap (λ (x : List Float). x ++ after) (ap (λ (k : ℕ). take k z) (add-one p) ∙ take-suc z p nan h) ∙ append_snoc (take p z) (nth z p) after

  before_long : length (take p z) ≡ p
  before_long = length-take-le p z (omega (arith, h))

  own : nth q p ≡ nth z p
  own = ap (λ (x : List Float). nth x p) split ∙ get_or_at (take p z) (nth z p) after nan p before_long

  later : (j : ℕ) → nth q (p + 1 + j) ≡ nth after j
  later j =
      let m : p + 1 + j ≡ length (take (p + 1) z) + j = rw (length-take-le (p + 1) z (omega (arith, h))) in
      ap (λ (x : List Float). nth x (p + 1 + j)) e ∙ rw m (get_or-append-add (take (p + 1) z) after j nan)

  row_solved : (n : ℕ) (mq : List Float) (k : ℕ)
      → solved_back n mq q p k ≡ take p z ++ total ◌⊖◌ (nth z p) (λ j. at n mq p (p + 1 + j) ⊗ nth after j) k ∷ after
  row_solved n mq k =
      ap (λ (x : List Float). set x p (total ◌⊖◌ (nth q p) (λ j. at n mq p (p + 1 + j) ⊗ nth q (p + 1 + j)) k)) split
      ∙ set_at (take p z) (nth z p) after _ p before_long
      ∙ rw own (ap (λ (x : Float). take p z ++ x ∷ after) (total_cong ◌⊖◌ (nth z p) _ (λ j. at n mq p (p + 1 + j) ⊗ nth after j) k (λ j b. rw (later j))))

pub back_rows_turn : (n : ℕ) (mq z q : List Float) (i p : ℕ) → i ≡ p + 1 → i < n → length z ≡ n → q ≡ take i z ++ backward n mq z (n - i)
    → solved_back n mq q p (n - (p + 1)) ≡ take p z ++ backward n mq z (n - p)
unfolding backward
back_rows_turn n mq z q i p e h l g =
    let k : n - p ≡ suc (n - (p + 1)) = omega arith in
    let m : n - suc (n - (p + 1)) ≡ p = omega arith in
    row_solved z q (backward n mq z (n - (p + 1))) p (g ∙ rw e) (omega arith) n mq (n - (p + 1)) ∙ rw (k, m)

-- ---- the rank-one update: the rows below j are done, and their columns taken from v

abbrev pub factored_to : ℕ → List Float → List Float → List Float → Float → ℕ → ℕ → ℕ → Float
factored_to n mq z v t0 = swept_by (λ r c. r) (factor_at n mq z v t0) (λ r c. at n mq r c)

abbrev pub columns_to : ℕ → List Float → List Float → ℕ → ℕ → Float
columns_to n mq v j l = pick (ltb l j) (less_columns n mq v l l) (less_columns n mq v l j)

pub columns_start : (n : ℕ) (mq v : List Float) → length v ≡ n → VectorOf n (columns_to n mq v 0) v
unfolding less_columns total
columns_start n mq v l = record { long = l; each = λ k b. skip (ltb k 0) _ _ _ (le-ltb k 0 (omega arith)) refl }

module _ (n : ℕ) (mq₀ z v₀ : List Float) (t0 : Float) (j : ℕ) (mq v : List Float) (h : MatrixOf n (factored_to n mq₀ z v₀ t0 j) mq) (s : VectorOf n (columns_to n mq₀ v₀ j) v) (l : j < n) where
  -- entry k of v, with the column taken
  column_entry : (k : ℕ) → k < n → pick (ltb j k) (nth v k ⊖ at n mq k j) (nth v k) ≡ columns_to n mq₀ v₀ (j + 1) k
  unfolding less_columns
  column_entry k b =
      both_ways (ltb k (j + 1))
      (λ t. let m : k ≤ j = omega (arith, ltb-true k (j + 1) t) in
      is_skip (ltb j k) _ _ (le-ltb j k m) ∙ s.each k b ∙ ⊎_elim
      (λ (q : k ≡ j). is_skip (ltb k j) _ _ (le-ltb k j (omega arith)) ∙ rw q)
      (λ (q : k < j). is_hit (ltb k j) _ _ (lt-ltb k j q))
      (eq-or-lt_of_le m))
      (λ t. let m : j < k = omega (arith, ltb-false k (j + 1) t) in
      is_hit (ltb j k) _ _ (lt-ltb j k m)
      ∙ total_turn ◌⊖◌ (nth v₀ k) _ j _ _ (s.each k b ∙ is_skip (ltb k j) _ _ (le-ltb k j (omega arith))) (by_left n _ _ _ j mq h k j b l (omega arith)))

  columns_next : VectorOf n (columns_to n mq₀ v₀ (j + 1)) (column_taken n mq v j)
  unfolding column_taken
  columns_next = record { long = length_tab _ n; each = λ k b. tab_entry _ n k b ∙ column_entry k b }

  -- entry j of v as it is read before
  pub column_now : nth v j ≡ less_columns n mq₀ v₀ j j
  column_now = s.each j l ∙ is_skip (ltb j j) _ _ (le-ltb j j (omega arith))

  -- v' is v with the column taken
  module _ (v' : List Float) (taken : v' ≡ column_taken n mq v j) where
    pub columns_turn : VectorOf n (columns_to n mq₀ v₀ (j + 1)) v'
    columns_turn = rw taken columns_next

    row_long : length (take (j * n + n - (j * n + j)) (drop (j * n + j) mq)) ≡ n - j
    row_long = part_long n _ _ j mq h j (j * n + j) (j * n + n - (j * n + j)) l (omega arith) refl ∙ omega arith

    beside : (c : ℕ) → 0 < c → c < n - j → nth (take (n - j) (drop j v')) c ≡ less_columns n mq₀ v₀ (j + c) (suc j)
    beside c p m =
        get_or-take (n - j) (drop j v') c nan m ∙ get_or-drop j v' c nan ∙ columns_turn.each (j + c) (omega arith)
        ∙ is_skip (ltb (j + c) (j + 1)) _ _ (le-ltb (j + c) (j + 1) (omega arith)) ∙ ap (less_columns n mq₀ v₀ (j + c)) (add-one j)

    module _ (oldt : Float) (o : oldt ≡ t_after n mq₀ z v₀ t0 j) where
      pub t_turn : oldt ⊕ nth v j ⊗ nth z j ≡ t_after n mq₀ z v₀ t0 (j + 1)
      unfolding t_after
      t_turn = total_turn ◌⊕◌ t0 _ j oldt (nth v j ⊗ nth z j) o (rw column_now)

      pub factored_turn : (row' : List Float) (newt : Float) → newt ≡ oldt ⊕ nth v j ⊗ nth z j
          → row' ≡ row_updated (take (j * n + n - (j * n + j)) (drop (j * n + j) mq)) (oldt ⊘ newt) (nth z j ⊘ newt) (take (n - j) (drop j v'))
          → MatrixOf n (factored_to n mq₀ z v₀ t0 (j + 1)) (put_mid (j * n + j) (j * n + n - (j * n + j)) mq row')
      unfolding row_updated
      factored_turn row' newt w y =
          part_turn n _ _ j mq h j (j * n + j) (j * n + n - (j * n + j)) l (omega arith) refl
          row' (ap length y ∙ length_tab _ _ ∙ part_long n _ _ j mq h j (j * n + j) (j * n + n - (j * n + j)) l (omega arith) refl)
          (λ c m.
          let e : nth (take (j * n + n - (j * n + j)) (drop (j * n + j) mq)) c ≡ at n mq₀ j (j + c) =
          part_entry n _ _ j mq h j (j * n + j) (j * n + n - (j * n + j)) l (omega arith) refl c m
          in
          let w' : newt ≡ t_after n mq₀ z v₀ t0 (suc j) = w ∙ t_turn ∙ ap (t_after n mq₀ z v₀ t0) (add-one j) in
          ap (λ (r : List Float). nth r c) y ∙ tab_entry _ _ c (omega (arith, row_long))
          ∙ skip (ltb (j + c) j) _ _ _ (le-ltb (j + c) j (omega arith))
          (both_ways (eqb j (j + c))
          (λ t. let q : j ≡ j + c = eqb-true j (j + c) t in
          is_hit (eqb c 0) _ _ (eq-eqb c 0 (omega arith)) ∙ rw (e, o, w'))
          (λ t. let q : c ≡ 0 → ⊥ = λ x. eqb-false j (j + c) t (omega (arith, x)) in
          is_skip (eqb c 0) _ _ (ne_eqb c 0 q) ∙ rw (e, w', beside c (positive c q) (omega arith)))))
          (λ c m q. both_ways (ltb c j) (λ _. refl) (λ t. absurd (q (ltb-false c j t) (omega arith))))
        where
          positive : (c : ℕ) → (c ≡ 0 → ⊥) → 0 < c
          positive zero q = absurd (q refl)
          positive (suc c) q = omega arith

pub factored_done : (n : ℕ) (mq₀ z v₀ : List Float) (t0 : Float) (j : ℕ) (mq : List Float) → MatrixOf n (factored_to n mq₀ z v₀ t0 j) mq → n ≤ j → mq ≡ factors_after n mq₀ z v₀ t0
unfolding factors_after
factored_done n mq₀ z v₀ t0 j mq h l = by_done n _ _ _ j mq h (λ r c a b k. absurd (omega arith))

pub columns_done : (n : ℕ) (mq v₀ : List Float) (j : ℕ) (v : List Float) → VectorOf n (columns_to n mq v₀ j) v → n ≤ j → v ≡ tab (λ l. less_columns n mq v₀ l l) n
columns_done n mq v₀ j v h l = tab_ext _ n v h.long (λ k b. h.each k b ∙ is_hit (ltb k j) _ _ (lt-ltb k j (omega arith)))
