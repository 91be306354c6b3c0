-- The helper's formulas (ell_calc.rs, `EllCalcCore`), in the Rust's order of operations. Definitions only.
use Rattle.std.specs.Prelude.{Float}
use Rattle.numbers.specs.F64.{◌⊕◌, ◌⊖◌, ◌⊗◌, ◌⊘◌, 1ᶠ, 2ᶠ}
use Rattle.numbers.specs.Sqrt.{sqrt_of}
use Rattle.numbers.specs.declared.cut.Params.{Params}
use Rattle.numbers.specs.declared.ell_calc_core.EllCalcCore.{EllCalcCore}

-- `EllCalcCore::new`: the six numbers of dimension n
unfoldable pub core_new : Float → EllCalcCore
core_new n =
    let n_sq = n ⊗ n in
    let cst0 = 1ᶠ ⊘ (n ⊕ 1ᶠ) in
    record {
      n_f = n;
      n_plus_1 = n ⊕ 1ᶠ;
      half_n = n ⊘ 2ᶠ;
      inv_n = 1ᶠ ⊘ n;
      cst1 = n_sq ⊘ (n_sq ⊖ 1ᶠ);
      cst2 = 2ᶠ ⊗ cst0;
    }

-- `calc_parallel_bias_cut_fast`: two bounds, whose product b0b1 and eta the caller has
unfoldable pub core_parallel_bias_cut_fast : EllCalcCore → Float → Float → Float → Float → Float → Params
core_parallel_bias_cut_fast c beta0 beta1 tsq b0b1 eta =
    let b0sq = beta0 ⊗ beta0 in
    let b1sq = beta1 ⊗ beta1 in
    let zeta0 = tsq ⊖ b0sq in
    let zeta1 = tsq ⊖ b1sq in
    let temp = c.half_n ⊗ (b1sq ⊖ b0sq) in
    let xi = sqrt_of (zeta0 ⊗ zeta1 ⊕ temp ⊗ temp) in
    let bsum = beta0 ⊕ beta1 in
    let bsumsq = bsum ⊗ bsum in
    let sigma = 2ᶠ ⊗ eta ⊘ (tsq ⊕ b0b1 ⊕ c.half_n ⊗ bsumsq ⊕ xi) in
    let rho = sigma ⊗ (beta0 ⊕ beta1) ⊘ 2ᶠ in
    let delta = c.cst1 ⊗ ((zeta0 ⊕ zeta1) ⊘ 2ᶠ ⊕ xi ⊘ c.n_f) ⊘ tsq in
    record { rho = rho; sigma = sigma; delta = delta }

-- `calc_parallel_bias_cut`: two bounds alone
unfoldable pub core_parallel_bias_cut : EllCalcCore → Float → Float → Float → Params
core_parallel_bias_cut c beta0 beta1 tsq =
    let b0b1 = beta0 ⊗ beta1 in
    let eta = tsq ⊕ c.n_f ⊗ b0b1 in
    core_parallel_bias_cut_fast c beta0 beta1 tsq b0b1 eta

-- `calc_parallel_central_cut`: two bounds of which the first is zero
unfoldable pub core_parallel_central_cut : EllCalcCore → Float → Float → Params
core_parallel_central_cut c beta1 tsq =
    let b1sq = beta1 ⊗ beta1 in
    let a1sq = b1sq ⊘ tsq in
    let half_val = c.half_n ⊗ a1sq in
    let root = half_val ⊕ sqrt_of (1ᶠ ⊖ a1sq ⊕ half_val ⊗ half_val) in
    let r_plus_1 = root ⊕ 1ᶠ in
    record { rho = beta1 ⊘ r_plus_1; sigma = 2ᶠ ⊘ r_plus_1; delta = root ⊘ (root ⊖ c.inv_n) }

-- `calc_bias_cut_fast`: one bound, with tau, the root of tsq, and eta
unfoldable pub core_bias_cut_fast : EllCalcCore → Float → Float → Float → Params
core_bias_cut_fast c beta tau eta =
    let rho = eta ⊘ c.n_plus_1 in
    let sigma = 2ᶠ ⊗ rho ⊘ (tau ⊕ beta) in
    let alpha = beta ⊘ tau in
    record { rho = rho; sigma = sigma; delta = c.cst1 ⊗ (1ᶠ ⊖ alpha ⊗ alpha) }

-- `calc_bias_cut`: one bound and tau
unfoldable pub core_bias_cut : EllCalcCore → Float → Float → Params
core_bias_cut c beta tau = core_bias_cut_fast c beta tau (tau ⊕ c.n_f ⊗ beta)

-- `calc_central_cut`: one bound that is zero
unfoldable pub core_central_cut : EllCalcCore → Float → Params
core_central_cut c tsq = record { rho = sqrt_of tsq ⊘ c.n_plus_1; sigma = c.cst2; delta = c.cst1 }
