-- The turns of the loops of ell, and the ways through its update. Assumes nothing.
use mathlib.Core.Path.{◌≡◌, refl, sym, ap, subst, ◌∙◌}
use Rattle.std.specs.Prelude.{Ok}
use mathlib.Core.Bool.{Bool, true, false, not}
use mathlib.Core.List.{List}
use Prim.Native.Nat.{ℕ, ◌≤◌, ◌<◌, ◌+◌, ◌-◌, ◌*◌}
use native.Mathlib.Nat.{zero-add}
use native.Mathlib.Omega.{arith}
use borrow.Author.Tests.{ltb-true, ltb-false, leb-true, leb-false, le-leb, eqb-true, eq-eqb, ne_eqb, lt-ltb, le-ltb}
use borrow.Rule.Slice.PartMut.{put_mid}
use lib.Dec.{leb, ltb, eqb}
use lib.ListN.{length, set, take, drop}
use lib.Ieee.{Float}
use Rattle.numbers.specs.F64.{◌⊖◌, ◌⊗◌, ◌⊘◌}
use Rattle.numbers.specs.Pick.{pick}
use Rattle.numbers.specs.Arr.{tab, mv_of, dot_of}
use Rattle.numbers.specs.declared.cut.CutAnswer.{CutAnswer}
use Rattle.numbers.specs.declared.cut.CutChoice.{CutChoice}
use Rattle.numbers.specs.declared.cut.CutStatus.TheVariants.{NoEffect}
use Rattle.numbers.specs.laws.Arr.{length_tab, tab_entry}
use Rattle.numbers.specs.laws.Pick.{is_hit, is_skip, both_ways, pick_cong, pick_grow}
use Rattle.oracles.specs.Matrix.{nth, at, grid}
use Rattle.oracles.specs.laws.Matrix.{length_grid, grid_at, grid_cong}
use Rattle.oracles.specs.laws.Loop.{MatrixOf, matrix_set, matrix_grid, swept_by, by_zero, by_left, by_past, by_turn, by_done, part_long, part_entry, part_turn}
use Rattle.oracles.specs.EllCommon.{calc_of, is_tiny, is_success, centre_of, change, update_of}
use Rattle.oracles.specs.declared.ell_common.CutStrategy.{CutStrategy}
use Rattle.oracles.specs.declared.ell.Ell.{Ell}
use Rattle.oracles.specs.declared.ell.EllChange.{EllChange}
use Rattle.oracles.specs.Ell.{EllBuffers, ell_buffers, rank_one, ell_work, change_of}
use Rattle.oracles.proofs.ell_common.Laws.{no_effect, fails, succeeds}
use Rattle.oracles.specs.laws.Ell.{row_lowered, all_lowered, mirrored_to, row_mirrored, mirrored}

-- ---- column i from row i

pub mirror_start : (n i : ℕ) (mq : List Float) → length mq ≡ n * n → MatrixOf n (mirrored_to n mq i 0) mq
mirror_start n i mq l = record {
  long = l;
  each = λ r c _ _. both_ways (eqb c i) (λ _. sym (is_skip (ltb r 0) (at n mq c r) (at n mq r c) (le-ltb r 0 (omega arith)))) (λ _. refl);
}

pub mirror_turn : (n i j : ℕ) (mq₀ mq : List Float) (v : Float) → MatrixOf n (mirrored_to n mq₀ i j) mq → v ≡ at n mq i j → j < i → i < n
    → MatrixOf n (mirrored_to n mq₀ i (j + 1)) (set mq (j * n + i) v)
mirror_turn n i j mq₀ mq v h e a b =
    matrix_set n (mirrored_to n mq₀ i j) (mirrored_to n mq₀ i (j + 1)) mq j i v h (omega arith) b
    (e ∙ h.each i j b (omega arith) ∙ is_skip (eqb j i) _ _ (ne_eqb j i (λ q. absurd (omega (arith, q))))
    ∙ sym (is_hit (eqb i i) _ _ (eq-eqb i i refl) ∙ is_hit (ltb j (j + 1)) (at n mq₀ i j) (at n mq₀ j i) (lt-ltb j (j + 1) (omega arith))))
    (λ r c _ _ q. pick_cong (eqb c i) (λ e. pick_grow r j (at n mq₀ c r) (at n mq₀ r c) (λ z. q z (eqb-true c i e))) (λ _. refl))

pub mirror_done : (n i j : ℕ) (mq₀ mq : List Float) → MatrixOf n (mirrored_to n mq₀ i j) mq → j ≡ i → mq ≡ row_mirrored n mq₀ i
unfolding row_mirrored
mirror_done n i j mq₀ mq h e = matrix_grid n (mirrored_to n mq₀ i i) mq (subst (λ (k : ℕ). MatrixOf n (mirrored_to n mq₀ i k) mq) e h)

-- ---- every column

abbrev pub from_rows : ℕ → List Float → ℕ → ℕ → ℕ → Float
from_rows n mq = swept_by (λ r c. c) (λ r c. pick (ltb r c) (at n mq c r) (at n mq r c)) (λ r c. at n mq r c)

pub columns_start : (n : ℕ) (mq : List Float) → length mq ≡ n * n → MatrixOf n (from_rows n mq 0) mq
columns_start n mq l = by_zero n (λ r c. c) _ mq l

pub columns_turn : (n i : ℕ) (mq₀ mq : List Float) → MatrixOf n (from_rows n mq₀ i) mq → i < n → MatrixOf n (from_rows n mq₀ (i + 1)) (row_mirrored n mq i)
unfolding row_mirrored
columns_turn n i mq₀ mq h l =
    by_turn n _ _ _ i mq h (grid (mirrored_to n mq i i) n n) (length_grid (mirrored_to n mq i i) n n)
    (λ r c a b q. grid_at (mirrored_to n mq i i) n n r c a b ∙ is_hit (eqb c i) _ _ (eq-eqb c i q)
    ∙ both_ways (ltb r c)
    (λ t. let u : r < c = ltb-true r c t in
    is_hit (ltb r i) _ _ (lt-ltb r i (omega arith)) ∙ by_past n _ _ _ i mq h c r b a (omega arith) ∙ is_skip (ltb c r) _ _ (le-ltb c r (omega arith)))
    (λ t. let u : c ≤ r = ltb-false r c t in
    is_skip (ltb r i) _ _ (le-ltb r i (omega arith)) ∙ by_left n _ _ _ i mq h r c a b (omega arith)))
    (λ r c a b q. grid_at (mirrored_to n mq i i) n n r c a b ∙ is_skip (eqb c i) _ _ (ne_eqb c i q))

pub columns_done : (n i : ℕ) (mq₀ mq : List Float) → MatrixOf n (from_rows n mq₀ i) mq → n ≤ i → mq ≡ mirrored n mq₀
unfolding mirrored
columns_done n i mq₀ mq h l = by_done n _ _ _ i mq h (λ r c a b k. absurd (omega arith))

-- ---- every row

abbrev pub lowered_to : ℕ → Float → List Float → List Float → ℕ → ℕ → ℕ → Float
lowered_to n ratio gt mq = swept_by (λ r c. r) (λ r c. pick (leb c r) (at n mq r c ⊖ ratio ⊗ nth gt r ⊗ nth gt c) (at n mq r c)) (λ r c. at n mq r c)

pub rows_start : (n : ℕ) (ratio : Float) (gt mq : List Float) → length mq ≡ n * n → MatrixOf n (lowered_to n ratio gt mq 0) mq
rows_start n ratio gt mq l = by_zero n (λ r c. r) _ mq l

pub row_long : (n : ℕ) (ratio : Float) (gt mq₀ mq : List Float) (i : ℕ) → MatrixOf n (lowered_to n ratio gt mq₀ i) mq → i < n
    → length (take (i * n + n - i * n) (drop (i * n) mq)) ≡ n
row_long n ratio gt mq₀ mq i h l = part_long n _ _ i mq h 0 (i * n) (i * n + n - i * n) l (omega arith) (omega arith) ∙ omega arith

pub rows_turn : (n : ℕ) (ratio : Float) (gt mq₀ mq : List Float) (i : ℕ) → MatrixOf n (lowered_to n ratio gt mq₀ i) mq → i < n
    → MatrixOf n (lowered_to n ratio gt mq₀ (i + 1))
    (put_mid (i * n) (i * n + n - i * n) mq (row_lowered (take (i * n + n - i * n) (drop (i * n) mq)) (ratio ⊗ nth gt i) gt i))
unfolding row_lowered
rows_turn n ratio gt mq₀ mq i h l =
    part_turn n _ _ i mq h 0 (i * n) (i * n + n - i * n) l (omega arith) (omega arith) (tab new (length row)) (length_tab new (length row) ∙ long)
    (λ c m. tab_entry new (length row) c (omega (arith, long)) ∙ rw (each c m, zero-add))
    (λ c m q. absurd (q (omega arith) (omega arith)))
  where
    row : List Float
    row = take (i * n + n - i * n) (drop (i * n) mq)

    new : ℕ → Float
    new j = pick (leb j i) (nth row j ⊖ ratio ⊗ nth gt i ⊗ nth gt j) (nth row j)

    long : length row ≡ i * n + n - i * n
    long = part_long n _ _ i mq h 0 (i * n) (i * n + n - i * n) l (omega arith) (omega arith)

    each : (c : ℕ) → c < i * n + n - i * n → nth row c ≡ at n mq₀ i (0 + c)
    each c m = part_entry n _ _ i mq h 0 (i * n) (i * n + n - i * n) l (omega arith) (omega arith) c m

pub rows_done : (n : ℕ) (ratio : Float) (gt mq₀ mq : List Float) (i : ℕ) → MatrixOf n (lowered_to n ratio gt mq₀ i) mq → n ≤ i → mq ≡ all_lowered n ratio gt mq₀
unfolding all_lowered
rows_done n ratio gt mq₀ mq i h l = by_done n _ _ _ i mq h (λ r c a b k. absurd (omega arith))

-- ---- both: the lower triangle lowered, and the upper one its mirror image

pub shrunk : (n : ℕ) (ratio : Float) (gt mq : List Float) → mirrored n (all_lowered n ratio gt mq) ≡ rank_one n ratio gt mq
unfolding mirrored all_lowered rank_one
shrunk n ratio gt mq =
    grid_cong _ _ n n
    (λ r c a b. both_ways (leb c r)
    (λ t. let l : c ≤ r = leb-true c r t in
    is_skip (ltb r c) _ _ (le-ltb r c l) ∙ grid_at low n n r c a b ∙ is_hit (leb c r) _ _ t)
    (λ t. let l : r < c = leb-false c r t in
    is_hit (ltb r c) _ _ (lt-ltb r c l) ∙ grid_at low n n c r b a ∙ is_hit (leb r c) _ _ (le-leb r c (omega arith))))
  where
    low : ℕ → ℕ → Float
    low r c = pick (leb c r) (at n mq r c ⊖ ratio ⊗ nth gt r ⊗ nth gt c) (at n mq r c)

-- ---- the ways through an update, from what its calls answered

-- r is what `with_status` answered
module _ (e : Ell) (s : CutStrategy) (grad : List Float) (beta : CutChoice) (b : EllBuffers) (r : EllChange) (gt : List Float) (omega : Float) (tiny : Bool)
    (g : gt ≡ mv_of e.ndim b.mq grad) (o : omega ≡ dot_of grad gt) (t : tiny ≡ is_tiny omega) where
  omega_is : omega ≡ dot_of grad (mv_of e.ndim b.mq grad)
  omega_is = o ∙ ap (dot_of grad) g

  pub ell_no_effect : tiny ≡ true → ((c : EllBuffers) → change_of r c ≡ change (Ok NoEffect) e.kappa e.tsq c)
      → change_of r (ell_buffers b.mq b.xc gt) ≡ update_of (ell_work e s grad beta b)
  ell_no_effect h q = no_effect (ell_work e s grad beta b) _ omega tiny omega_is t h (q _ ∙ rw g)

  module _ (a : CutAnswer) (ok : Bool) (k : a ≡ calc_of s e.helper beta (e.kappa ⊗ omega)) (u : ok ≡ is_success a.status) (h : tiny ≡ false) where
    pub ell_fails : not ok ≡ true → ((c : EllBuffers) → change_of r c ≡ change (Ok a.status) e.kappa (e.kappa ⊗ omega) c)
        → change_of r (ell_buffers b.mq b.xc gt) ≡ update_of (ell_work e s grad beta b)
    ell_fails f q = fails (ell_work e s grad beta b) _ omega tiny omega_is t a ok k u h f (q _ ∙ rw g)

    pub ell_succeeds : (mq xc : List Float) → not ok ≡ false → mq ≡ rank_one e.ndim (a.params.sigma ⊘ omega) gt b.mq
        → xc ≡ centre_of b.xc (a.params.rho ⊘ omega) gt → ((c : EllBuffers) → change_of r c ≡ change (Ok a.status) (e.kappa ⊗ a.params.delta) (e.kappa ⊗ omega) c)
        → change_of r (ell_buffers mq xc gt) ≡ update_of (ell_work e s grad beta b)
    ell_succeeds mq xc f x y q = succeeds (ell_work e s grad beta b) _ omega tiny omega_is t a ok k u h f (q _ ∙ rw (x, y, ← omega_is, ← g))
