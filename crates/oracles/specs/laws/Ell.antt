-- The steps of Ell's rank-one update, and laws of what it writes. Assumes nothing.
use Rattle.std.specs.Prelude.{◌≡◌, refl, Bool, true, false, List, ℕ, ◌≤◌, ◌<◌, ◌*◌, leb, ltb, eqb, length, Float}
use Rattle.std.proofs.Math.Path.{sym}
use Rattle.std.proofs.Common.{◌∙◌, ⊎_elim, eq-or-lt_of_le, arith, ltb-true, ltb-false, le-leb}
use Rattle.std.proofs.lemmas.Bool.{lt-leb}
use Rattle.numbers.specs.F64.{◌⊖◌, ◌⊗◌}
use Rattle.numbers.specs.Pick.{pick}
use Rattle.numbers.specs.Arr.{tab}
use Rattle.numbers.specs.laws.Pick.{is_hit, is_skip}
use Rattle.oracles.specs.Matrix.{nth, at, grid}
use Rattle.oracles.specs.laws.Matrix.{length_grid, grid_at}
use Rattle.oracles.specs.Ell.{rank_one}

-- ---- the steps

-- a row with its entries 0 to i lowered
unfoldable pub row_lowered : List Float → Float → List Float → ℕ → List Float
row_lowered row r_qg gt i = tab (λ j. pick (leb j i) (nth row j ⊖ r_qg ⊗ nth gt j) (nth row j)) (length row)

-- the lower triangle, with the diagonal, lowered
unfoldable pub all_lowered : ℕ → Float → List Float → List Float → List Float
all_lowered n ratio gt mq = grid (λ r c. pick (leb c r) (at n mq r c ⊖ ratio ⊗ nth gt r ⊗ nth gt c) (at n mq r c)) n n

-- the matrix with column i's entries before j from row i; all above the diagonal
abbrev pub mirrored_to : ℕ → List Float → ℕ → ℕ → ℕ → ℕ → Float
mirrored_to n mq i j r c = pick (eqb c i) (pick (ltb r j) (at n mq c r) (at n mq r c)) (at n mq r c)

unfoldable pub row_mirrored : ℕ → List Float → ℕ → List Float
row_mirrored n mq i = grid (mirrored_to n mq i i) n n

-- the upper triangle from the lower one
unfoldable pub mirrored : ℕ → List Float → List Float
mirrored n mq = grid (λ r c. pick (ltb r c) (at n mq c r) (at n mq r c)) n n

-- ---- the matrix that they leave

module _ (n : ℕ) (ratio : Float) (gt mq : List Float) where
  pub length_rank_one : length (rank_one n ratio gt mq) ≡ n * n
  unfolding rank_one
  length_rank_one = length_grid _ n n

  -- on the diagonal and below it
  pub rank_one_at : (i j : ℕ) → i < n → j ≤ i → at n (rank_one n ratio gt mq) i j ≡ at n mq i j ⊖ ratio ⊗ nth gt i ⊗ nth gt j
  unfolding rank_one
  rank_one_at i j h l = grid_at _ n n i j h (omega arith) ∙ is_hit (leb j i) _ _ (le-leb j i l)

  above : (i j : ℕ) → j < n → i < j → at n (rank_one n ratio gt mq) i j ≡ at n (rank_one n ratio gt mq) j i
  unfolding rank_one
  above i j h l = grid_at _ n n i j (omega arith) h ∙ is_skip (leb j i) _ _ (lt-leb j i l) ∙ sym (rank_one_at j i h (omega arith))

  -- and above it the same: the matrix is symmetric
  pub rank_one_symmetric : (i j : ℕ) → i < n → j < n → at n (rank_one n ratio gt mq) i j ≡ at n (rank_one n ratio gt mq) j i
  rank_one_symmetric i j h k = go (ltb i j) refl
    where
      go : (t : Bool) → ltb i j ≡ t → at n (rank_one n ratio gt mq) i j ≡ at n (rank_one n ratio gt mq) j i
      go true e = above i j k (ltb-true i j e)
      go false e = ⊎_elim (λ (q : j ≡ i). rw q) (λ (l : j < i). sym (above j i h l)) (eq-or-lt_of_le (ltb-false i j e))
