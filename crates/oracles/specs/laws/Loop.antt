-- Laws of tests and choices, of loops that write vectors and matrices entry by entry, and of parts that were lent. Assumes nothing.
use Rattle.std.specs.Prelude.{◌≡◌, refl, Bool, true, false, List, ◌++◌, ℕ, ◌≤◌, ◌<◌, ◌+◌, ◌*◌, ◌-◌, ltb, eqb, Float, length, take, drop, set}
use Rattle.std.proofs.Common.{sym, ap, ◌∙◌, arith, ltb-true, ltb-false, eqb-true, lt-ltb, le-ltb, length-drop, length-set, get_or-append-add, get_or-set_same, get_or-set_other, get_or-take, get_or-drop, length-take-le}
use Rattle.std.proofs.lemmas.Bool.{eqb-false}
use borrow.Rule.Slice.PartMut.{put_mid, same_len_mid}
use Rattle.std.specs.Float.{nan}
use Rattle.std.proofs.Math.ListN.{get_or-append}
use Rattle.numbers.specs.Pick.{pick}
use Rattle.numbers.specs.Arr.{tab}
use Rattle.numbers.specs.laws.Arr.{row_in, row_unique, tab_ext}
use Rattle.numbers.specs.laws.Pick.{hit, both_ways, is_hit, is_skip, pick_grow}
use Rattle.oracles.specs.Matrix.{nth, at, grid}
use Rattle.oracles.specs.laws.Matrix.{place_in, grid_ext, at_set_same, at_set_other}

-- ---- a vector with the entries f, while a loop writes it

pub record VectorOf (m : ℕ) (f : ℕ → Float) (xs : List Float) : Type 0 where
  pub long : length xs ≡ m
  pub each : (k : ℕ) → k < m → nth xs k ≡ f k

pub vector_set : (m : ℕ) (f g : ℕ → Float) (xs : List Float) (i : ℕ) (v : Float) → VectorOf m f xs → i < m → v ≡ g i
    → ((k : ℕ) → k < m → (k ≡ i → ⊥) → f k ≡ g k) → VectorOf m g (set xs i v)
vector_set m f g xs i v h l e o = record {
  long = simp length-set h.long;
  each = λ k b. go k b (eqb k i) refl;
}
  where
    go : (k : ℕ) → k < m → (t : Bool) → eqb k i ≡ t → nth (set xs i v) k ≡ g k
    go k b true q = let p : k ≡ i = eqb-true k i q in rw p (get_or-set_same xs i v nan (omega (arith, h.long)) ∙ e)
    go k b false q = get_or-set_other xs i k v nan (eqb-false k i q) ∙ h.each k b ∙ o k b (eqb-false k i q)

-- ---- a loop that writes f k at each k in turn, where g k was: when the entries below i are written

abbrev pub swept : (ℕ → Float) → (ℕ → Float) → ℕ → ℕ → Float
swept f g i k = pick (ltb k i) (f k) (g k)

module _ (m : ℕ) (f g : ℕ → Float) (i : ℕ) (xs : List Float) where
  pub sweep_start : length xs ≡ m → ((k : ℕ) → k < m → nth xs k ≡ g k) → ((k : ℕ) → k < i → g k ≡ f k) → VectorOf m (swept f g i) xs
  sweep_start l h e = record { long = l; each = λ k b. both_ways (ltb k i) (λ t. h k b ∙ e k (ltb-true k i t)) (λ _. h k b) }

  module _ (h : VectorOf m (swept f g i) xs) where
    -- what is not written yet, and what is
    pub sweep_left : (k : ℕ) → i ≤ k → k < m → nth xs k ≡ g k
    sweep_left k l b = h.each k b ∙ is_skip (ltb k i) (f k) (g k) (le-ltb k i l)

    pub sweep_past : (k : ℕ) → k < i → k < m → nth xs k ≡ f k
    sweep_past k l b = h.each k b ∙ is_hit (ltb k i) (f k) (g k) (lt-ltb k i l)

    pub sweep_turn : (v : Float) → i < m → v ≡ f i → VectorOf m (swept f g (i + 1)) (set xs i v)
    sweep_turn v b e =
        vector_set m (swept f g i) (swept f g (i + 1)) xs i v h b (hit (ltb i (i + 1)) (f i) (g i) v (lt-ltb i (i + 1) (omega arith)) e)
        (λ k l q. pick_grow k i (f k) (g k) q)

    pub sweep_done : ((k : ℕ) → k < m → i ≤ k → g k ≡ f k) → xs ≡ tab f m
    sweep_done e = tab_ext f m xs h.long (λ k b. go k b (ltb k i) refl)
      where
        go : (k : ℕ) → k < m → (t : Bool) → ltb k i ≡ t → nth xs k ≡ f k
        go k b true t = sweep_past k (ltb-true k i t) b
        go k b false t = sweep_left k (ltb-false k i t) b ∙ e k b (ltb-false k i t)

-- where nothing is written yet
pub sweep_zero : (m : ℕ) (f : ℕ → Float) (xs : List Float) → length xs ≡ m → VectorOf m (swept f (λ k. nth xs k) 0) xs
sweep_zero m f xs l = sweep_start m f (λ k. nth xs k) 0 xs l (λ k b. refl) (λ k b. absurd (omega (arith, b)))

-- ---- a matrix with the entries f, while a loop writes it

pub record MatrixOf (n : ℕ) (f : ℕ → ℕ → Float) (mat : List Float) : Type 0 where
  pub long : length mat ≡ n * n
  pub each : (r c : ℕ) → r < n → c < n → at n mat r c ≡ f r c

pub matrix_set : (n : ℕ) (f g : ℕ → ℕ → Float) (mat : List Float) (i j : ℕ) (v : Float) → MatrixOf n f mat → i < n → j < n → v ≡ g i j
    → ((r c : ℕ) → r < n → c < n → (r ≡ i → c ≡ j → ⊥) → f r c ≡ g r c) → MatrixOf n g (set mat (i * n + j) v)
matrix_set n f g mat i j v h a b e o = record {
  long = simp length-set h.long;
  each = λ r c k l. go r c k l (eqb r i) refl (eqb c j) refl;
}
  where
    other : (r c : ℕ) → r < n → c < n → (r ≡ i → c ≡ j → ⊥) → at n (set mat (i * n + j) v) r c ≡ g r c
    other r c k l q = at_set_other n mat i j r c v b l q ∙ h.each r c k l ∙ o r c k l q

    go : (r c : ℕ) → r < n → c < n → (s : Bool) → eqb r i ≡ s → (t : Bool) → eqb c j ≡ t → at n (set mat (i * n + j) v) r c ≡ g r c
    go r c k l true p true q =
        let p' : r ≡ i = eqb-true r i p in
        let q' : c ≡ j = eqb-true c j q in
        rw (p', q') (at_set_same n mat i j v (rw h.long (place_in n n i j a b)) ∙ e)
    go r c k l true p false q = other r c k l (λ _ y. eqb-false c j q y)
    go r c k l false p t q = other r c k l (λ x _. eqb-false r i p x)

-- a list whose part of k entries from a on was lent, and is back as ys, entry by entry
module _ (a k : ℕ) (xs ys : List Float) (h : a + k ≤ length xs) (l : length ys ≡ k) where
  front_long : length (take a xs) ≡ a
  front_long = length-take-le a xs (omega (arith, h))

  pub put_before : (p : ℕ) → p < a → nth (put_mid a k xs ys) p ≡ nth xs p
  put_before p b = get_or-append (take a xs) (ys ++ drop k (drop a xs)) nan p (rw front_long b) ∙ get_or-take a xs p nan b

  past_front : (q : ℕ) → nth (put_mid a k xs ys) (a + q) ≡ nth (ys ++ drop k (drop a xs)) q
  past_front q =
      let e : a + q ≡ length (take a xs) + q = rw front_long in
      rw e (get_or-append-add (take a xs) (ys ++ drop k (drop a xs)) q nan)

  pub put_in : (q : ℕ) → q < k → nth (put_mid a k xs ys) (a + q) ≡ nth ys q
  put_in q b = past_front q ∙ get_or-append ys (drop k (drop a xs)) nan q (omega (arith, l))

  pub put_after : (p : ℕ) → a + k ≤ p → nth (put_mid a k xs ys) p ≡ nth xs p
  put_after p b =
      let m = p - (a + k) in
      let e : p ≡ a + (length ys + m) = omega (arith, l) in
      let e' : p ≡ a + (k + m) = omega arith in
      ap (λ (z : ℕ). nth (put_mid a k xs ys) z) e ∙ past_front (length ys + m) ∙ get_or-append-add ys (drop k (drop a xs)) m nan
      ∙ get_or-drop k (drop a xs) m nan ∙ get_or-drop a xs (k + m) nan ∙ ap (λ (z : ℕ). nth xs z) (sym e')

-- the k entries of row i from a on, lent as a part, and back
pub matrix_put : (n : ℕ) (f g : ℕ → ℕ → Float) (mat ys : List Float) (i a k : ℕ) → MatrixOf n f mat → i < n → a + k ≤ n → length ys ≡ k
    → ((c : ℕ) → c < k → nth ys c ≡ g i (a + c)) → ((r c : ℕ) → r < n → c < n → (r ≡ i → a ≤ c → c < a + k → ⊥) → f r c ≡ g r c)
    → MatrixOf n g (put_mid (i * n + a) k mat ys)
matrix_put n f g mat ys i a k h l b e p o = record {
  long = same_len_mid (i * n + a) k mat ys (e ∙ sym (length-take-le k (drop (i * n + a) mat) (rw (length-drop (i * n + a) mat) (omega (arith, inside))))) ∙ h.long;
  each = λ r c x y. go r c x y (ltb (r * n + c) (i * n + a)) refl (ltb (r * n + c) (i * n + a + k)) refl;
}
  where
    inside : i * n + a + k ≤ length mat
    inside = omega (arith, row_in n i n l, h.long)

    same_row : (r : ℕ) → r ≡ i → r * n ≡ i * n
    same_row r q = ap (λ (z : ℕ). z * n) q

    go : (r c : ℕ) → r < n → c < n → (s : Bool) → ltb (r * n + c) (i * n + a) ≡ s → (t : Bool) → ltb (r * n + c) (i * n + a + k) ≡ t
        → at n (put_mid (i * n + a) k mat ys) r c ≡ g r c
    go r c x y true q t w =
        let u : r * n + c < i * n + a = ltb-true (r * n + c) (i * n + a) q in
        put_before (i * n + a) k mat ys inside e (r * n + c) u ∙ h.each r c x y
        ∙ o r c x y (λ z m _. absurd (omega (arith, same_row r z)))
    go r c x y false q true w =
        let u : i * n + a ≤ r * n + c = ltb-false (r * n + c) (i * n + a) q in
        let v : r * n + c < i * n + a + k = ltb-true (r * n + c) (i * n + a + k) w in
        let z : r ≡ i = row_unique n r c i (r * n + c - i * n) y (omega arith) (omega arith) in
        let m : a ≤ c = omega (arith, same_row r z) in
        let d : r * n + c ≡ i * n + a + (c - a) = omega (arith, same_row r z) in
        let d' : a + (c - a) ≡ c = omega arith in
        rw d (put_in (i * n + a) k mat ys inside e (c - a) (omega arith)) ∙ p (c - a) (omega arith) ∙ rw (d', z)
    go r c x y false q false w =
        let v : i * n + a + k ≤ r * n + c = ltb-false (r * n + c) (i * n + a + k) w in
        put_after (i * n + a) k mat ys inside e (r * n + c) v ∙ h.each r c x y
        ∙ o r c x y (λ z _ m. absurd (omega (arith, same_row r z)))

pub matrix_grid : (n : ℕ) (f : ℕ → ℕ → Float) (mat : List Float) → MatrixOf n f mat → mat ≡ grid f n n
matrix_grid n f mat h = grid_ext f n n mat h.long h.each

-- ---- a loop over the rows, or the columns, as `key` says, that writes f r c where g r c was: when those below i are written

abbrev pub swept_by : (ℕ → ℕ → ℕ) → (ℕ → ℕ → Float) → (ℕ → ℕ → Float) → ℕ → ℕ → ℕ → Float
swept_by key f g i r c = pick (ltb (key r c) i) (f r c) (g r c)

module _ (n : ℕ) (key : ℕ → ℕ → ℕ) (f g : ℕ → ℕ → Float) (i : ℕ) (mat : List Float) where
  pub by_start : length mat ≡ n * n → ((r c : ℕ) → at n mat r c ≡ g r c) → ((r c : ℕ) → r < n → c < n → key r c < i → g r c ≡ f r c)
      → MatrixOf n (swept_by key f g i) mat
  by_start l h e = record { long = l; each = λ r c a b. both_ways (ltb (key r c) i) (λ t. h r c ∙ e r c a b (ltb-true (key r c) i t)) (λ _. h r c) }

  module _ (h : MatrixOf n (swept_by key f g i) mat) where
    -- what is not written yet, and what is
    pub by_left : (r c : ℕ) → r < n → c < n → i ≤ key r c → at n mat r c ≡ g r c
    by_left r c a b l = h.each r c a b ∙ is_skip (ltb (key r c) i) (f r c) (g r c) (le-ltb (key r c) i l)

    pub by_past : (r c : ℕ) → r < n → c < n → key r c < i → at n mat r c ≡ f r c
    by_past r c a b l = h.each r c a b ∙ is_hit (ltb (key r c) i) (f r c) (g r c) (lt-ltb (key r c) i l)

    pub by_turn : (mat' : List Float) → length mat' ≡ n * n → ((r c : ℕ) → r < n → c < n → key r c ≡ i → at n mat' r c ≡ f r c)
        → ((r c : ℕ) → r < n → c < n → (key r c ≡ i → ⊥) → at n mat' r c ≡ at n mat r c) → MatrixOf n (swept_by key f g (i + 1)) mat'
    by_turn mat' l e o = record { long = l; each = λ r c a b. go r c a b (eqb (key r c) i) refl }
      where
        go : (r c : ℕ) → r < n → c < n → (t : Bool) → eqb (key r c) i ≡ t → at n mat' r c ≡ swept_by key f g (i + 1) r c
        go r c a b true t =
            let q : key r c ≡ i = eqb-true (key r c) i t in
            hit (ltb (key r c) (i + 1)) (f r c) (g r c) (at n mat' r c) (lt-ltb (key r c) (i + 1) (omega arith)) (e r c a b q)
        go r c a b false t = o r c a b (eqb-false (key r c) i t) ∙ h.each r c a b ∙ pick_grow (key r c) i (f r c) (g r c) (eqb-false (key r c) i t)

    pub by_done : ((r c : ℕ) → r < n → c < n → i ≤ key r c → g r c ≡ f r c) → mat ≡ grid f n n
    by_done e = grid_ext f n n mat h.long (λ r c a b. go r c a b (ltb (key r c) i) refl)
      where
        go : (r c : ℕ) → r < n → c < n → (t : Bool) → ltb (key r c) i ≡ t → at n mat r c ≡ f r c
        go r c a b true t = by_past r c a b (ltb-true (key r c) i t)
        go r c a b false t = by_left r c a b (ltb-false (key r c) i t) ∙ e r c a b (ltb-false (key r c) i t)

-- where nothing is written yet
pub by_zero : (n : ℕ) (key : ℕ → ℕ → ℕ) (f : ℕ → ℕ → Float) (mat : List Float) → length mat ≡ n * n → MatrixOf n (swept_by key f (λ r c. at n mat r c) 0) mat
by_zero n key f mat l = by_start n key f (λ r c. at n mat r c) 0 mat l (λ r c. refl) (λ r c _ _ m. absurd (omega (arith, m)))

-- the k entries of row i from a on, lent as the part that begins at s, and back
module _ (n : ℕ) (f g : ℕ → ℕ → Float) (i : ℕ) (mat : List Float) (h : MatrixOf n (swept_by (λ r c. r) f g i) mat) (a s k : ℕ) (l : i < n) (b : a + k ≤ n) (p : s ≡ i * n + a) where
  pub part_long : length (take k (drop s mat)) ≡ k
  part_long = length-take-le k (drop s mat) (rw (length-drop s mat) (omega (arith, row_in n i n l, h.long)))

  pub part_entry : (c : ℕ) → c < k → nth (take k (drop s mat)) c ≡ g i (a + c)
  part_entry c m =
      let e : s + c ≡ i * n + (a + c) = omega arith in
      get_or-take k (drop s mat) c nan m ∙ get_or-drop s mat c nan ∙ ap (λ (z : ℕ). nth mat z) e
      ∙ by_left n (λ r c. r) f g i mat h i (a + c) l (omega arith) (omega arith)

  pub part_turn : (ys : List Float) → length ys ≡ k → ((c : ℕ) → c < k → nth ys c ≡ f i (a + c)) → ((c : ℕ) → c < n → (a ≤ c → c < a + k → ⊥) → g i c ≡ f i c)
      → MatrixOf n (swept_by (λ r c. r) f g (i + 1)) (put_mid s k mat ys)
  part_turn ys m e o =
      rw p
      (matrix_put n (swept_by (λ r c. r) f g i) (swept_by (λ r c. r) f g (i + 1)) mat ys i a k h l b m
      (λ c y. hit (ltb i (i + 1)) (f i (a + c)) (g i (a + c)) (nth ys c) (lt-ltb i (i + 1) (omega arith)) (e c y))
      (λ r c x y z. go r c y z (eqb r i) refl))
    where
      go : (r c : ℕ) → c < n → (r ≡ i → a ≤ c → c < a + k → ⊥) → (t : Bool) → eqb r i ≡ t → swept_by (λ r c. r) f g i r c ≡ swept_by (λ r c. r) f g (i + 1) r c
      go r c y z false t = pick_grow r i (f r c) (g r c) (eqb-false r i t)
      go r c y z true t =
          let q : r ≡ i = eqb-true r i t in
          is_skip (ltb r i) (f r c) (g r c) (le-ltb r i (omega arith)) ∙ rw q (o c y (z q))
          ∙ sym (is_hit (ltb r (i + 1)) (f r c) (g r c) (lt-ltb r (i + 1) (omega arith)))
