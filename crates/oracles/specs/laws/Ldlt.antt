-- Laws of the definitions of LdltMgr. Assumes nothing.
use Rattle.std.specs.Prelude.{◌≡◌, Bool, ◌&&◌, ◌⊎◌, List, [], ltb, eqb, length, Float, Ok, Err, Some, None, Result, Option}
use Rattle.std.proofs.Math.Path.{refl, sym, ap}
use Rattle.std.proofs.Common.{◌∙◌, inl, inr, eq-or-lt_of_le, arith}
use Rattle.std.proofs.Math.Bool.{true, false}
use Rattle.std.proofs.Math.Logic.{⊎_elim}
use Prim.Native.Nat.{ℕ, zero, suc, ◌≤◌, ◌<◌, ◌+◌, ◌-◌, ◌*◌}
use borrow.Author.Tests.{ltb-true, ltb-false, lt-ltb, le-ltb, le-leb, eq-eqb, eqb-false}
use Rattle.std.specs.Float.Ieee.{neg}
use Rattle.numbers.specs.F64.{◌⊕◌, ◌⊗◌, ◌⊘◌, 0ᶠ}
use Rattle.numbers.specs.Pick.{pick}
use Rattle.numbers.specs.Refusal.{ask}
use Rattle.numbers.specs.declared.refusal.Refusal.{Refusal}
use Rattle.numbers.specs.declared.refusal.Refusal.TheVariants.{Dimension}
use Rattle.numbers.specs.laws.Pick.{hit, skip}
use Rattle.numbers.specs.laws.Refusal.{ask_sound, both_sound, held, at_next, accepts, by_tests}
use Rattle.oracles.specs.Matrix.{at, total}
use Rattle.oracles.specs.laws.Matrix.{length_grid, grid_at, grid_ext}
use Rattle.oracles.specs.LdltMgr.{is_order, get_elem, less, taken, reduced, stored, stops, stop_from, stop_of, filled, position_of, factor_rows, factor_of, factor_tests, factor_answer, witness_of, witness_tests, witness_answer}
use Rattle.oracles.specs.declared.ldlt_mgr.Pos.{Pos}

-- ---- the entry

-- with no mat_f and xc it is mat_b's own
pub entry_plain : (m : ℕ) (mat : List Float) (i j : ℕ) → get_elem m mat [] [] i j ≡ at m mat i j
unfolding get_elem total
entry_plain m mat i j = refl

-- ---- the factors

module _ (A : ℕ → ℕ → Float) where
  -- the storage's entries by their place
  pub stored_low : (r c : ℕ) → c < r → stored A r c ≡ reduced A r c ⊘ reduced A c c
  unfolding stored
  stored_low r c h = sym (hit (ltb c r) _ _ _ (lt-ltb c r h) refl)

  pub stored_high : (r c : ℕ) → r ≤ c → stored A r c ≡ reduced A c r
  unfolding stored
  stored_high r c h = sym (skip (ltb c r) _ _ _ (le-ltb c r h) refl)

  -- what the columns before have taken is a sum
  pub taken_total : (i c n : ℕ) → taken A i c n ≡ total ◌⊕◌ 0ᶠ (λ k. reduced A i k ⊘ reduced A k k ⊗ reduced A c k) n
  unfolding taken reduced total
  taken_total i c zero = refl
  taken_total i c (suc k) = ap (λ (s : Float). s ⊕ reduced A i k ⊘ reduced A k k ⊗ reduced A c k) (taken_total i c k)

-- a place has both its row and its column below k, or not
front : (r c k : ℕ) → ((r < k) × (c < k)) ⊎ (r < k → c < k → ⊥)
front r c k = go (ltb r k) (ltb c k) refl refl
  where
    go : (s t : Bool) → ltb r k ≡ s → ltb c k ≡ t → ((r < k) × (c < k)) ⊎ (r < k → c < k → ⊥)
    go true true x y = inl (ltb-true r k x, ltb-true c k y)
    go true false x y = inr (λ u v. omega (arith, ltb-false c k y))
    go false t x y = inr (λ u v. omega (arith, ltb-false r k x))

outside : (r c k : ℕ) → (r < k → c < k → ⊥) → (ltb r k && ltb c k) ≡ false
outside r c k apart = go (ltb r k) (ltb c k) refl refl
  where
    go : (s t : Bool) → ltb r k ≡ s → ltb c k ≡ t → (ltb r k && ltb c k) ≡ false
    go true true x y = absurd (apart (ltb-true r k x) (ltb-true c k y))
    go true false x y = rw (x, y)
    go false t x y = rw x

-- the storage with the rows and columns below k written: these are the factors', and the rest is as it was
module _ (A : ℕ → ℕ → Float) (m : ℕ) (storage : List Float) (k : ℕ) where
  pub length_filled : length (filled A m storage k) ≡ m * m
  unfolding filled
  length_filled = length_grid _ m m

  pub filled_in : (r c : ℕ) → r < m → c < m → r < k → c < k → at m (filled A m storage k) r c ≡ stored A r c
  unfolding filled
  filled_in r c a b x y = grid_at _ m m r c a b ∙ sym (hit _ _ _ _ (rw (lt-ltb r k x, lt-ltb c k y)) refl)

  pub filled_out : (r c : ℕ) → r < m → c < m → (r < k → c < k → ⊥) → at m (filled A m storage k) r c ≡ at m storage r c
  unfolding filled
  filled_out r c a b apart = grid_at _ m m r c a b ∙ sym (skip _ _ _ _ (outside r c k apart) refl)

  -- a list that has these entries is that storage
  pub filled_ext : (mat : List Float) → length mat ≡ m * m → ((r c : ℕ) → r < m → c < m → r < k → c < k → at m mat r c ≡ stored A r c)
      → ((r c : ℕ) → r < m → c < m → (r < k → c < k → ⊥) → at m mat r c ≡ at m storage r c) → mat ≡ filled A m storage k
  unfolding filled
  filled_ext mat l f g = grid_ext _ m m mat l
      (λ r c a b.
      ⊎_elim
      (λ (x : (r < k) × (c < k)). hit _ _ _ _ (rw (lt-ltb r k x.0, lt-ltb c k x.1)) (f r c a b x.0 x.1))
      (λ (x : r < k → c < k → ⊥). skip _ _ _ _ (outside r c k x) (g r c a b x))
      (front r c k))

pub filled_zero : (A : ℕ → ℕ → Float) (m : ℕ) (storage : List Float) → length storage ≡ m * m → storage ≡ filled A m storage 0
filled_zero A m storage l = filled_ext A m storage 0 storage l (λ r c a b x y. absurd (omega (arith, x))) (λ r c a b x. refl)

-- one row more
pub filled_suc : (A : ℕ → ℕ → Float) (m : ℕ) (storage : List Float) (i : ℕ) → filled A m (filled A m storage i) (suc i) ≡ filled A m storage (suc i)
filled_suc A m storage i =
    let before = filled A m storage i in
    filled_ext A m storage (suc i) (filled A m before (suc i)) (length_filled A m before (suc i))
    (filled_in A m before (suc i))
    (λ r c a b x. filled_out A m before (suc i) r c a b x ∙ filled_out A m storage i r c a b (λ u v. x (omega arith) (omega arith)))

-- the rows and columns below i of the storage are the factors'
pub record FactoredTo (A : ℕ → ℕ → Float) (m : ℕ) (storage : List Float) (i : ℕ) : Type 0 where
  pub is : (r c : ℕ) → r < i → c < i → at m storage r c ≡ stored A r c

-- ---- the stop

module _ (A : ℕ → ℕ → Float) where
  -- at row i, and after it
  pub stop_here : (left i : ℕ) → stops (reduced A i i) ≡ true → stop_from A (suc left) i ≡ suc i
  unfolding stop_from
  stop_here left i h = sym (hit _ _ _ _ h refl)

  pub stop_later : (left i : ℕ) → stops (reduced A i i) ≡ false → stop_from A (suc left) i ≡ stop_from A left (suc i)
  unfolding stop_from
  stop_later left i h = sym (skip _ _ _ _ h refl)

  -- e is the first of `left` rows from s on whose pivot stops it
  record FirstFrom (left s e : ℕ) : Type 0 where
    from : s ≤ e
    within : e < s + left
    stopped : stops (reduced A e e) ≡ true
    passed : (k : ℕ) → s ≤ k → k < e → stops (reduced A k k) ≡ false

  first_from : (left s e : ℕ) → stop_from A left s ≡ suc e → FirstFrom left s e
  unfolding stop_from
  first_from zero s e h = absurd (omega (arith, h))
  first_from (suc left) s e h = go (stops (reduced A s s)) refl (first_from left (suc s) e)
    where
      go : (t : Bool) → stops (reduced A s s) ≡ t → (stop_from A left (suc s) ≡ suc e → FirstFrom left (suc s) e) → FirstFrom (suc left) s e
      go true x later =
          let q : s ≡ e = omega (arith, sym (stop_here left s x) ∙ h) in
          record { from = omega arith; within = omega arith; stopped = rw (← q) x; passed = λ k a b. absurd (omega arith) }
      go false x later =
          let r = later (sym (stop_later left s x) ∙ h) in
          record {
            from = omega (arith, r.from);
            within = omega (arith, r.within);
            stopped = r.stopped;
            passed = λ k a b. ⊎_elim (λ (y : s ≡ k). rw (← y) x) (λ (y : s < k). r.passed k y b) (eq-or-lt_of_le a);
          }

  none_from : (left s : ℕ) → stop_from A left s ≡ 0 → (k : ℕ) → s ≤ k → k < s + left → stops (reduced A k k) ≡ false
  none_from zero s h k a b = absurd (omega arith)
  none_from (suc left) s h k a b = go (stops (reduced A s s)) refl (λ x y. none_from left (suc s) x k y (omega arith))
    where
      go : (t : Bool) → stops (reduced A s s) ≡ t → (stop_from A left (suc s) ≡ 0 → s < k → stops (reduced A k k) ≡ false) → stops (reduced A k k) ≡ false
      go true x later = absurd (omega (arith, sym (stop_here left s x) ∙ h))
      go false x later =
          ⊎_elim
          (λ (y : s ≡ k). rw (← y) x)
          (λ (y : s < k). later (sym (stop_later left s x) ∙ h) y)
          (eq-or-lt_of_le a)

  -- the stop is one more than the first row whose pivot stops it, and 0 where none does
  pub stop_first : (m e : ℕ) → stop_of A m ≡ suc e → (e < m) × (stops (reduced A e e) ≡ true) × ((k : ℕ) → k < e → stops (reduced A k k) ≡ false)
  unfolding stop_of
  stop_first m e h = let r = first_from m 0 e h in (omega (arith, r.within), r.stopped, λ k l. r.passed k (omega arith) l)

  pub stop_none : (m : ℕ) → stop_of A m ≡ 0 → (k : ℕ) → k < m → stops (reduced A k k) ≡ false
  unfolding stop_of
  stop_none m h k l = none_from m 0 h k (omega arith) (omega arith)

  pub stop_most : (m : ℕ) → stop_of A m ≤ m
  stop_most m = go (stop_of A m) refl
    where
      go : (e : ℕ) → stop_of A m ≡ e → stop_of A m ≤ m
      go zero h = omega arith
      go (suc e) h = omega (arith, (stop_first m e h).0)

-- `e` is what factor_rows answered
pub rows_most : (A : ℕ → ℕ → Float) (m : ℕ) (storage : List Float) (e : ℕ) (out : List Float) → (e, out) ≡ factor_rows A m storage → e ≤ m
unfolding factor_rows
rows_most A m storage e out h = rw (ap (λ (x : ℕ × List Float). x.0) h) (stop_most A m)

-- ---- the factorization reads the entries (i, j) with j ≤ i alone

module _ (A B : ℕ → ℕ → Float) (m : ℕ) (agree : (i j : ℕ) → i < m → j ≤ i → A i j ≡ B i j) where
  less_cong : (i j : ℕ) (s t : Float) → i < m → j ≤ i → s ≡ t → less A i j s ≡ less B i j t
  less_cong i zero s t b l e = agree i 0 b l
  less_cong i (suc j) s t b l e = rw (agree i (suc j) b l, e)

  taken_cong : (i c n : ℕ) → i < m → c < m → n ≤ i → n ≤ c → taken A i c n ≡ taken B i c n
  unfolding taken
  taken_cong i c zero a b l h = refl
  taken_cong i c (suc k) a b l h =
      rw (
        taken_cong i c k a b (omega arith) (omega arith),
        less_cong i k _ _ a (omega arith) (taken_cong i k k a (omega arith) (omega arith) (omega arith)),
        less_cong k k _ _ (omega arith) (omega arith) (taken_cong k k k (omega arith) (omega arith) (omega arith) (omega arith)),
        less_cong c k _ _ b (omega arith) (taken_cong c k k b (omega arith) (omega arith) (omega arith)),
      )

  reduced_cong : (i j : ℕ) → i < m → j ≤ i → reduced A i j ≡ reduced B i j
  unfolding reduced
  reduced_cong i j b l = less_cong i j _ _ b l (taken_cong i j j b (omega arith) l (omega arith))

  stored_cong : (r c : ℕ) → r < m → c < m → stored A r c ≡ stored B r c
  stored_cong r c a b = go (ltb c r) refl
    where
      go : (t : Bool) → ltb c r ≡ t → stored A r c ≡ stored B r c
      go true x =
          let l : c < r = ltb-true c r x in
          stored_low A r c l ∙ rw (reduced_cong r c a (omega arith), reduced_cong c c b (omega arith)) (sym (stored_low B r c l))
      go false x =
          let l : r ≤ c = ltb-false c r x in
          stored_high A r c l ∙ reduced_cong c r b l ∙ sym (stored_high B r c l)

  stop_cong : (left i : ℕ) → i + left ≤ m → stop_from A left i ≡ stop_from B left i
  unfolding stop_from
  stop_cong zero i h = refl
  stop_cong (suc left) i h = rw (reduced_cong i i (omega arith) (omega arith), stop_cong left (suc i) (omega arith))

  filled_cong : (storage : List Float) (k : ℕ) → filled A m storage k ≡ filled B m storage k
  filled_cong storage k =
      filled_ext B m storage k (filled A m storage k) (length_filled A m storage k)
      (λ r c a b x y. filled_in A m storage k r c a b x y ∙ stored_cong r c a b)
      (filled_out A m storage k)

  rows_cong : (storage : List Float) → factor_rows A m storage ≡ factor_rows B m storage
  unfolding factor_rows stop_of
  rows_cong storage = rw (stop_cong m 0 (omega arith), filled_cong storage (pick (eqb (stop_from B m 0) 0) m (stop_from B m 0)))

-- so `factor` answers the same, storage too, of two matrices that agree on these
pub factor_lower : (m : ℕ) (mat mat' storage : List Float) → length mat ≡ length mat' → ((i j : ℕ) → i < m → j ≤ i → at m mat i j ≡ at m mat' i j)
    → factor_answer m mat storage ≡ factor_answer m mat' storage
unfolding factor_of
factor_lower m mat mat' storage l agree =
    let q = rows_cong (get_elem m mat [] []) (get_elem m mat' [] []) m (λ i j b h. entry_plain m mat i j ∙ agree i j b h ∙ sym (entry_plain m mat' i j)) storage in
    rw (l, q)

-- ---- the witness right after a stopped `factor` is never refused

-- what holds where `factor` has said that it stopped at pos, and has left `out` in the storage
pub record StoppedAt (m : ℕ) (pos : Pos) (out : List Float) : Type 0 where
  pub order : is_order m ≡ true
  pub long : length out ≡ m * m
  pub start : pos.start ≡ 0
  pub begun : pos.start < pos.end
  pub within : pos.end ≤ m

-- what `factor` may say
abbrev Said : Type 0
Said = Result (Option Pos) Refusal

refused_no : (why : Refusal) (pos : Pos) → ◌≡◌ {A = Said} (Err why) (Ok (Some pos)) → ⊥
refused_no why pos h = let z : ◌≡◌ {A = ℕ} 0 1 = cc in omega arith

definite_no : (pos : Pos) → ◌≡◌ {A = Said} (Ok None) (Ok (Some pos)) → ⊥
definite_no pos h = let z : ◌≡◌ {A = ℕ} 0 1 = cc in omega arith

same_place : (p q : Pos) → ◌≡◌ {A = Said} (Ok (Some p)) (Ok (Some q)) → p ≡ q
same_place p q h = cc

abbrev said : Said × List Float → Said
said x = x.0

rows_stopped : (A : ℕ → ℕ → Float) (m : ℕ) (storage : List Float) (pos : Pos) (out : List Float) → is_order m ≡ true → factor_of A m storage ≡ (Ok (Some pos), out) → StoppedAt m pos out
unfolding factor_of factor_rows
rows_stopped A m storage pos out o f = go (eqb (stop_of A m) 0) refl
  where
    go : (t : Bool) → eqb (stop_of A m) 0 ≡ t → StoppedAt m pos out
    go true x = absurd (definite_no pos (ap Ok (hit _ _ _ _ x refl) ∙ ap said f))
    go false x =
        let q = same_place (position_of (stop_of A m)) pos (ap Ok (skip _ _ _ _ x refl) ∙ ap said f) in
        let a : 0 ≡ pos.start = ap (λ (p : Pos). p.start) q in
        let b : stop_of A m ≡ pos.end = ap (λ (p : Pos). p.end) q in
        record {
          order = o;
          long = sym (ap (λ (x : Said × List Float). length x.1) f) ∙ length_filled A m storage _;
          start = sym a;
          begun = let z = eqb-false (stop_of A m) 0 x in omega arith;
          within = omega (arith, stop_most A m);
        }

pub factor_stopped : (m : ℕ) (mat storage : List Float) (pos : Pos) (out : List Float) → factor_answer m mat storage ≡ (Ok (Some pos), out) → StoppedAt m pos out
factor_stopped m mat storage pos out =
    by_tests (λ (r : Said × List Float). r ≡ (Ok (Some pos), out) → StoppedAt m pos out) (factor_tests m mat storage) _ _
    (λ why place e h. absurd (refused_no why pos (ap said h)))
    (λ e h. rows_stopped (get_elem m mat [] []) m storage pos out (ask_sound (is_order m) _ _ (both_sound (ask (is_order m) Dimension) _ e).0) h)

pub witness_follows : (m : ℕ) (pos : Pos) (out wit : List Float) → StoppedAt m pos out → length wit ≡ m
    → witness_answer m pos out wit ≡ (Ok (neg (at m out (pos.end - 1) (pos.end - 1))), witness_of m pos out wit)
witness_follows m pos out wit h l =
    sym
    (accepts _ _ (witness_tests m pos out wit)
    (at_next (at_next (held _ _ h.order) (held _ _ (rw (eq-eqb (length out) (m * m) h.long, eq-eqb (length wit) m l))))
    (held _ _ (rw (lt-ltb pos.start pos.end h.begun, le-leb pos.end m h.within))))
    refl)
