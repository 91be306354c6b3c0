-- The ellipsoid by factors (ell_stable.rs): the inverse of its matrix is L D Lᵀ; the diagonal holds D's inverse, L[i, j] stands above it at (j, i), scratch below.
-- Definitions only.
use Rattle.numbers.specs.Refusal.{Tests}
use Rattle.numbers.specs.declared.refusal.Refusal.{Refusal}
use Rattle.std.specs.Prelude.{ℕ, zero, suc, ◌+◌, ◌-◌, ◌*◌, Bool, ◌&&◌, List, [], ◌∷◌, ltb, eqb, length, Float, Ok, Err, Result}
use Rattle.numbers.specs.F64.{◌⊕◌, ◌⊖◌, ◌⊗◌, ◌⊘◌, 0ᶠ, 1ᶠ}
use Rattle.numbers.specs.Pick.{pick}
use Rattle.numbers.specs.Arr.{tab, sized}
use Rattle.numbers.specs.EllCalc.{made}
use Rattle.numbers.specs.declared.cut.CutChoice.{CutChoice}
use Rattle.numbers.specs.declared.cut.Params.{Params}
use Rattle.oracles.specs.Matrix.{nth, at, grid, total}
use Rattle.oracles.specs.EllCommon.{calc_of, centre_of, new_of, Work, Change, update_of, update_answer}
use Rattle.oracles.specs.declared.ell_common.CutStrategy.{CutStrategy}
use Rattle.oracles.specs.declared.ell_stable.EllStable.{EllStable}
use Rattle.oracles.specs.declared.ell_stable.EllStableUpdate.{EllStableUpdate}

-- the state of a new ellipsoid beside its factors and its centre
abbrev pub fresh_stable : ℕ → Float → EllStable
fresh_stable n kappa = record { ndim = n; kappa = kappa; helper = made n; tsq = 0ᶠ }

-- `new_with_matrix`; refusal 1
unfoldable pub new_ell_stable_answer : ℕ → Float → Result EllStable Refusal
new_ell_stable_answer n kappa = new_of Err (Ok (fresh_stable n kappa)) n

-- the slices that an update is lent to write
pub record StableBuffers : Type 0 where
  pub mq : List Float
  pub xc : List Float
  pub inv_ml_g : List Float
  pub inv_md_inv_ml_g : List Float
  pub gg_t : List Float
  pub g_t : List Float

abbrev pub stable_buffers : List Float → List Float → List Float → List Float → List Float → List Float → StableBuffers
stable_buffers mq xc inv_ml_g inv_md_inv_ml_g gg_t g_t =
    record { mq = mq; xc = xc; inv_ml_g = inv_ml_g; inv_md_inv_ml_g = inv_md_inv_ml_g; gg_t = gg_t; g_t = g_t }

-- ---- the parts of an update, for factors mq with rows of n and a gradient g

-- entry l of the gradient when the columns below j have been taken from it; entry l of L⁻¹g where j is l
unfoldable pub forward : ℕ → List Float → List Float → ℕ → ℕ → Float
forward n mq g l zero = nth g l
forward n mq g l (suc j) = forward n mq g l j ⊖ at n mq j l ⊗ forward n mq g j j

-- inv(L) g
unfoldable pub inv_ml_g_of : ℕ → List Float → List Float → ℕ → Float
inv_ml_g_of n mq g i = forward n mq g i i

-- inv(D) inv(L) g: the diagonal holds D's inverse
unfoldable pub inv_md_inv_ml_g_of : ℕ → List Float → List Float → ℕ → Float
inv_md_inv_ml_g_of n mq g i = inv_ml_g_of n mq g i ⊗ at n mq i i

-- omega's terms, and omega
unfoldable pub gg_t_of : ℕ → List Float → List Float → ℕ → Float
gg_t_of n mq g i = inv_md_inv_ml_g_of n mq g i ⊗ inv_ml_g_of n mq g i

unfoldable pub omega_of : ℕ → List Float → List Float → Float
omega_of n mq g = total ◌⊕◌ 0ᶠ (gg_t_of n mq g) n

-- the strict lower triangle holds what `forward` subtracts
unfoldable pub lowered : ℕ → List Float → List Float → List Float
lowered n mq g = grid (λ r c. pick (ltb c r) (at n mq c r ⊗ inv_ml_g_of n mq g c) (at n mq r c)) n n

-- the last `count` entries of inv(Lᵀ) z, from the last one back
unfoldable pub backward : ℕ → List Float → List Float → ℕ → List Float
backward n mq z zero = []
backward n mq z (suc k) =
    let after = backward n mq z k in
    let i = n - suc k in
    total ◌⊖◌ (nth z i) (λ j. at n mq i (i + 1 + j) ⊗ nth after j) k ∷ after

-- omega / mu, where mu = sigma / (1 − sigma); a sigma of 1 divides by zero and goes on
unfoldable pub t_start : Float → Float → Float
t_start omega sigma = omega ⊘ (sigma ⊘ (1ᶠ ⊖ sigma))

-- the running number of the rank-one update: t0, and each column's product added
unfoldable pub t_of : ℕ → List Float → List Float → Float → ℕ → Float
t_of n mq g t0 j = total ◌⊕◌ t0 (λ i. inv_ml_g_of n mq g i ⊗ inv_md_inv_ml_g_of n mq g i) j

-- the factors after the rank-one update
unfoldable pub rank_one_factors : ℕ → List Float → List Float → Float → List Float
rank_one_factors n mq g t0 = grid (λ r c. pick (ltb c r) (at n mq c r ⊗ inv_ml_g_of n mq g c) (pick (eqb r c) (diagonal r) (upper r c))) n n
  where
    t : ℕ → Float
    t j = t_of n mq g t0 j

    diagonal : ℕ → Float
    diagonal j = at n mq j j ⊗ (t j ⊘ t (suc j))

    upper : ℕ → ℕ → Float
    upper j l = at n mq j l ⊕ inv_md_inv_ml_g_of n mq g j ⊘ t (suc j) ⊗ forward n mq g l (suc j)

-- ---- the update

-- with another kappa and tsq
abbrev pub with_tsq : EllStable → Float → Float → EllStable
with_tsq e kappa tsq = record { ndim = e.ndim; kappa = kappa; helper = e.helper; tsq = tsq }

-- the ellipsoid after an update, and the slices
abbrev pub stable_after : EllStable → Change StableBuffers → EllStableUpdate × StableBuffers
stable_after e c = (record { ell = with_tsq e c.kappa c.tsq; answer = c.answer }, c.buffers)

-- what is written before the update is known to fail
abbrev pub prepared : ℕ → List Float → StableBuffers → StableBuffers
prepared n grad b =
    let w = inv_ml_g_of n b.mq grad in
    let z = inv_md_inv_ml_g_of n b.mq grad in
    stable_buffers (lowered n b.mq grad) b.xc (tab w n) (tab z n) (tab (gg_t_of n b.mq grad) n) b.g_t

-- a success; the working vector g_t ends as inv(L) g
unfoldable pub succeeded : ℕ → List Float → StableBuffers → Float → Params → StableBuffers
succeeded n grad b omega p =
    let c = prepared n grad b in
    let z = c.inv_md_inv_ml_g in
    stable_buffers (rank_one_factors n b.mq grad (t_start omega p.sigma)) (centre_of b.xc (p.rho ⊘ omega) (backward n b.mq z n)) c.inv_ml_g z c.gg_t c.inv_ml_g

-- what an update works out
abbrev pub stable_work : EllStable → CutStrategy → List Float → CutChoice → StableBuffers → Work StableBuffers
stable_work e strategy grad beta b =
    let n = e.ndim in
    let omega = omega_of n b.mq grad in
    record {
      kappa = e.kappa;
      tsq = e.tsq;
      calculator = calc_of strategy e.helper beta;
      omega = omega;
      before = b;
      prepared = prepared n grad b;
      success = λ kappa p. (kappa, succeeded n grad b omega p);
    }

-- the update itself
unfoldable pub stable_update_of : EllStable → CutStrategy → List Float → CutChoice → StableBuffers → EllStableUpdate × StableBuffers
stable_update_of e strategy grad beta b = stable_after e (update_of (stable_work e strategy grad beta b))

-- the lengths that n says
abbrev pub stable_fits : ℕ → List Float → StableBuffers → Bool
stable_fits n grad b =
    eqb (length grad) n && eqb (length b.mq) (n * n) && eqb (length b.xc) n
    && eqb (length b.inv_ml_g) n && eqb (length b.inv_md_inv_ml_g) n && eqb (length b.gg_t) n && eqb (length b.g_t) n

-- `update_core`: refusals 1 and 2
abbrev pub stable_tests : ℕ → List Float → StableBuffers → Tests
stable_tests n grad b = sized n (stable_fits n grad b)

abbrev pub stable_update_answer : EllStable → CutStrategy → List Float → CutChoice → StableBuffers → EllStableUpdate × StableBuffers
stable_update_answer e strategy grad beta b =
    update_answer (stable_after e) (stable_tests e.ndim grad b) e.kappa e.tsq b (stable_update_of e strategy grad beta b)
