-- The steps of an update of the factors, and laws of the definitions of EllStable. Assumes nothing.
use Rattle.std.specs.Prelude.{◌≡◌, List, ◌∷◌, ltb, eqb, length, set, Float}
use Rattle.std.proofs.Math.Path.{refl, sym}
use Rattle.std.proofs.Common.{ap, ◌∙◌, eq-or-lt_of_le, arith}
use Rattle.std.proofs.Math.Logic.{⊎_elim}
use Prim.Native.Nat.{ℕ, zero, suc, ◌≤◌, ◌<◌, ◌+◌, ◌-◌, ◌*◌}
use borrow.Author.Tests.{ltb-true, ltb-false, eqb-true, eqb-false, lt-ltb, le-ltb, eq-eqb, ne_eqb}
use Rattle.numbers.specs.F64.{◌⊕◌, ◌⊖◌, ◌⊗◌, ◌⊘◌, 0ᶠ}
use Rattle.numbers.specs.Pick.{pick}
use Rattle.numbers.specs.Arr.{tab}
use Rattle.numbers.specs.laws.Arr.{tab_entry, tab_cong}
use Rattle.numbers.specs.laws.Pick.{is_hit, is_skip, pick_cong}
use Rattle.oracles.specs.Matrix.{nth, at, grid, total}
use Rattle.oracles.specs.laws.Matrix.{length_grid, grid_at, grid_cong, total_cong}
use Rattle.oracles.specs.EllStable.{forward, inv_ml_g_of, inv_md_inv_ml_g_of, gg_t_of, omega_of, lowered, backward, t_of, rank_one_factors}

-- ---- row i of `backward`

-- q with the first k products of row i subtracted from its entry i
abbrev pub solved_back : ℕ → List Float → List Float → ℕ → ℕ → List Float
solved_back n mq q i k = set q i (total ◌⊖◌ (nth q i) (λ j. at n mq i (i + 1 + j) ⊗ nth q (i + 1 + j)) k)

-- ---- the rank-one update

-- column j of the strict lower triangle taken from v
unfoldable pub column_taken : ℕ → List Float → List Float → ℕ → List Float
column_taken n mq v j = tab (λ l. pick (ltb j l) (nth v l ⊖ at n mq l j) (nth v l)) n

-- a row from its diagonal on
unfoldable pub row_updated : List Float → Float → Float → List Float → List Float
row_updated row ratio beta2 v = tab (λ l. pick (eqb l 0) (nth row l ⊗ ratio) (nth row l ⊕ beta2 ⊗ nth v l)) (length row)

-- entry l of v when the columns below j of the lower triangle have been taken from it
unfoldable pub less_columns : ℕ → List Float → List Float → ℕ → ℕ → Float
less_columns n mq v l j = total ◌⊖◌ (nth v l) (λ k. at n mq l k) j

-- the running number
unfoldable pub t_after : ℕ → List Float → List Float → List Float → Float → ℕ → Float
t_after n mq z v t0 j = total ◌⊕◌ t0 (λ i. less_columns n mq v i i ⊗ nth z i) j

-- the factors from what the lower triangle holds
abbrev pub factor_at : ℕ → List Float → List Float → List Float → Float → ℕ → ℕ → Float
factor_at n mq z v t0 r c =
    pick (ltb c r) (at n mq r c)
    (pick (eqb r c) (at n mq r c ⊗ (t_after n mq z v t0 r ⊘ t_after n mq z v t0 (suc r)))
    (at n mq r c ⊕ nth z r ⊘ t_after n mq z v t0 (suc r) ⊗ less_columns n mq v c (suc r)))

unfoldable pub factors_after : ℕ → List Float → List Float → List Float → Float → List Float
factors_after n mq z v t0 = grid (factor_at n mq z v t0) n n

-- ---- laws

-- `forward` as one sum
pub forward_total : (n : ℕ) (mq g : List Float) (l j : ℕ) → forward n mq g l j ≡ total ◌⊖◌ (nth g l) (λ k. at n mq k l ⊗ inv_ml_g_of n mq g k) j
unfolding forward inv_ml_g_of total
forward_total n mq g l zero = refl
forward_total n mq g l (suc j) = rw (forward_total n mq g l j)

-- the factors after the rank-one update, by place: below the diagonal, on it, and above it
module _ (n : ℕ) (mq g : List Float) (t0 : Float) where
  pub length_factors : length (rank_one_factors n mq g t0) ≡ n * n
  unfolding rank_one_factors
  length_factors = length_grid _ n n

  pub factors_low : (r c : ℕ) → r < n → c < r → at n (rank_one_factors n mq g t0) r c ≡ at n mq c r ⊗ inv_ml_g_of n mq g c
  unfolding rank_one_factors
  factors_low r c a l = grid_at _ n n r c a (omega arith) ∙ is_hit (ltb c r) _ _ (lt-ltb c r l)

  pub factors_diagonal : (j : ℕ) → j < n → at n (rank_one_factors n mq g t0) j j ≡ at n mq j j ⊗ (t_of n mq g t0 j ⊘ t_of n mq g t0 (suc j))
  unfolding rank_one_factors
  factors_diagonal j a = grid_at _ n n j j a a ∙ is_skip (ltb j j) _ _ (le-ltb j j (omega arith)) ∙ is_hit (eqb j j) _ _ (eq-eqb j j refl)

  pub factors_high : (j l : ℕ) → j < l → l < n → at n (rank_one_factors n mq g t0) j l ≡ at n mq j l ⊕ inv_md_inv_ml_g_of n mq g j ⊘ t_of n mq g t0 (suc j) ⊗ forward n mq g l (suc j)
  unfolding rank_one_factors
  factors_high j l h b = grid_at _ n n j l (omega arith) b ∙ is_skip (ltb l j) _ _ (le-ltb l j (omega arith)) ∙ is_skip (eqb j l) _ _ (ne_eqb j l (λ e. omega arith))

-- the lowered matrix: the products below the diagonal, the rest as it was
module _ (n : ℕ) (mq g : List Float) where
  pub length_lowered : length (lowered n mq g) ≡ n * n
  unfolding lowered
  length_lowered = length_grid _ n n

  pub lowered_low : (r c : ℕ) → r < n → c < n → c < r → at n (lowered n mq g) r c ≡ at n mq c r ⊗ inv_ml_g_of n mq g c
  unfolding lowered
  lowered_low r c a b l = grid_at _ n n r c a b ∙ is_hit (ltb c r) _ _ (lt-ltb c r l)

  pub lowered_high : (r c : ℕ) → r < n → c < n → r ≤ c → at n (lowered n mq g) r c ≡ at n mq r c
  unfolding lowered
  lowered_high r c a b l = grid_at _ n n r c a b ∙ is_skip (ltb c r) _ _ (le-ltb c r l)

  -- what the steps leave, as the definitions say it
  pub scaled : tab (λ i. nth (tab (inv_ml_g_of n mq g) n) i ⊗ at n (lowered n mq g) i i) n ≡ tab (inv_md_inv_ml_g_of n mq g) n
  unfolding inv_md_inv_ml_g_of
  scaled = tab_cong _ _ n (λ i b. rw (tab_entry (inv_ml_g_of n mq g) n i b, lowered_high i i b b (omega arith)))

  product : (i : ℕ) → i < n → nth (tab (inv_md_inv_ml_g_of n mq g) n) i ⊗ nth (tab (inv_ml_g_of n mq g) n) i ≡ gg_t_of n mq g i
  unfolding gg_t_of
  product i b = rw (tab_entry (inv_md_inv_ml_g_of n mq g) n i b, tab_entry (inv_ml_g_of n mq g) n i b)

  pub products : tab (λ i. nth (tab (inv_md_inv_ml_g_of n mq g) n) i ⊗ nth (tab (inv_ml_g_of n mq g) n) i) n ≡ tab (gg_t_of n mq g) n
  products = tab_cong _ _ n product

  pub summed : total ◌⊕◌ 0ᶠ (λ i. nth (tab (inv_md_inv_ml_g_of n mq g) n) i ⊗ nth (tab (inv_ml_g_of n mq g) n) i) n ≡ omega_of n mq g
  unfolding omega_of
  summed = total_cong ◌⊕◌ 0ᶠ _ _ n product

  -- the columns of the lowered matrix are what `forward` subtracts
  less_lowered : (l j : ℕ) → l < n → j ≤ l → less_columns n (lowered n mq g) g l j ≡ forward n mq g l j
  unfolding less_columns
  less_lowered l j b h = total_cong ◌⊖◌ (nth g l) _ _ j (λ k m. lowered_low l k b (omega arith) (omega arith)) ∙ sym (forward_total n mq g l j)

  pub columns_lowered : tab (λ l. less_columns n (lowered n mq g) g l l) n ≡ tab (inv_ml_g_of n mq g) n
  unfolding inv_ml_g_of
  columns_lowered = tab_cong _ _ n (λ l b. less_lowered l l b (omega arith))

  t_lowered : (t0 : Float) (j : ℕ) → j ≤ n → t_after n (lowered n mq g) (tab (inv_md_inv_ml_g_of n mq g) n) g t0 j ≡ t_of n mq g t0 j
  unfolding t_after t_of inv_ml_g_of
  t_lowered t0 j h =
      total_cong ◌⊕◌ t0 _ _ j (λ i m. rw (less_lowered i i (omega arith) (omega arith), tab_entry (inv_md_inv_ml_g_of n mq g) n i (omega arith)))

  pub factors_lowered : (t0 : Float) → factors_after n (lowered n mq g) (tab (inv_md_inv_ml_g_of n mq g) n) g t0 ≡ rank_one_factors n mq g t0
  unfolding factors_after rank_one_factors
  factors_lowered t0 =
      grid_cong _ _ n n
      (λ r c a b. pick_cong (ltb c r)
      (λ t. lowered_low r c a b (ltb-true c r t))
      (λ t. let l : r ≤ c = ltb-false c r t in
      pick_cong (eqb r c)
      (λ q. let e : r ≡ c = eqb-true r c q in rw (lowered_high r c a b l, t_lowered t0 r (omega arith), t_lowered t0 (suc r) a, ← e))
      (λ q. rw (lowered_high r c a b l, t_lowered t0 (suc r) a, tab_entry (inv_md_inv_ml_g_of n mq g) n r a, less_lowered c (suc r) b (apart r c l (eqb-false r c q))))))
    where
      apart : (r c : ℕ) → r ≤ c → (r ≡ c → ⊥) → suc r ≤ c
      apart r c l q = ⊎_elim (λ (e : r ≡ c). absurd (q e)) (λ (m : r < c). m) (eq-or-lt_of_le l)

  -- `backward` reads the upper triangle alone
  pub backward_lowered : (z : List Float) (k : ℕ) → k ≤ n → backward n (lowered n mq g) z k ≡ backward n mq z k
  unfolding backward
  backward_lowered z zero h = refl
  backward_lowered z (suc k) h =
      rw (backward_lowered z k (omega arith))
      (ap (λ (x : Float). x ∷ backward n mq z k)
      (total_cong ◌⊖◌ (nth z (n - suc k)) _ _ k (λ j m. rw (lowered_high (n - suc k) (n - suc k + 1 + j) (omega arith) (omega arith) (omega arith)))))
