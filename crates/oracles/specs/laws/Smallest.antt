-- The smallest inputs of docs/DIFFERENCES.md, where a definition shows them. Assumes nothing.
use Rattle.std.specs.Prelude.{◌≡◌, refl, true, List, [], ◌∷◌, pos, negsuc, Float, Err, Ok, Some, None}
use Rattle.std.specs.Float.{nan, binary64}
use Rattle.std.specs.Float.Ieee.{of_bits, add, sub, mul, div, neg, le, lt}
use Rattle.numbers.specs.F64.{0ᶠ, 1ᶠ, 2ᶠ}
use Rattle.numbers.specs.Pick.{pick}
use Rattle.numbers.specs.Arr.{tab, dot_from, dot_of}
use Rattle.numbers.specs.declared.refusal.Refusal.TheVariants.{Dimension, Band, Position, NoStopValue}
use Rattle.oracles.specs.RoundRobin.{fresh, advanced, new_range_answer, advance_answer}
use Rattle.oracles.specs.Scan.{−∞, none, scan_from, scan_of}
use Rattle.oracles.specs.Table.{value_of}
use Rattle.oracles.specs.LowpassOracle.{assess_sign, assess_middle, assess_stop, assess_of, assess_feas_answer, improved_of, assess_optim_answer}
use Rattle.oracles.specs.Matrix.{grid, total}
use Rattle.oracles.specs.LdltMgr.{get_elem, taken, reduced, stored, stop_from, stop_of, filled, position_of, factor_rows, factor_of, factor_answer, witness_tail, witness_of, witness_answer, quad_term, quad_of, sym_quad_answer}
use Rattle.oracles.specs.LmiOracle.{lmi_answer}
use Rattle.oracles.specs.declared.lowpass_oracle.LowpassOracle.{LowpassOracle}

-- a band to 1,025, and `advance` over an empty one
pub band_too_long : new_range_answer (pos 0) (pos 1025) ≡ Err Band
unfolding new_range_answer pick
band_too_long = refl

pub empty_advance : advance_answer (record { cur = negsuc 0; lo = pos 0; hi = pos 0 }) ≡ Err Band
unfolding advance_answer pick
empty_advance = refl

-- one pass row, and no stop row
abbrev one_row : LowpassOracle
one_row = record {
  more_alt = true;
  idx1 = negsuc 0;
  nwpass = pos 1;
  nwstop = pos 1;
  lp_sq = 0ᶠ;
  up_sq = 2ᶠ;
  sp_sq = 1ᶠ;
  idx2 = pos 0;
  idx3 = pos 0;
  fmax = −∞;
  kmax = none;
  rr1 = fresh (pos 0) (pos 1);
  rr2 = fresh (pos 1) (pos 1);
  rr3 = fresh (pos 1) (pos 1);
}

pub no_stop_row : assess_optim_answer one_row 1ᶠ 2 1 (1ᶠ ∷ 0ᶠ ∷ []) (1ᶠ ∷ 0ᶠ ∷ []) (0ᶠ ∷ 0ᶠ ∷ []) ≡ (record { oracle = one_row; gamma = 1ᶠ; verdict = Err NoStopValue }, 0ᶠ ∷ 0ᶠ ∷ [])
unfolding add mul le lt of_bits pick dot_from dot_of advanced value_of scan_from scan_of assess_sign assess_middle assess_stop assess_of assess_feas_answer improved_of
no_stop_row = refl

-- a witness of nothing, and a quadratic form from 2 to 1
pub no_witness : witness_answer 1 (position_of 0) (0ᶠ ∷ []) (0ᶠ ∷ []) ≡ (Err Position, 0ᶠ ∷ [])
unfolding pick
no_witness = refl

pub no_form : sym_quad_answer 2 (record { start = 2; end = 1 }) (0ᶠ ∷ 0ᶠ ∷ []) (0ᶠ ∷ 0ᶠ ∷ 0ᶠ ∷ 0ᶠ ∷ []) ≡ Err Position
unfolding pick
no_form = refl

-- a NaN pivot passes
pub nan_pivot : factor_answer 1 (nan ∷ []) (0ᶠ ∷ []) ≡ (Ok None, nan ∷ [])
unfolding le pick tab total get_elem taken reduced stored stop_from stop_of grid filled factor_rows factor_of
nan_pivot = refl

-- of 1 0 / 2 1 `factor` reads 2, as of 1 2 / 2 1, and `sym_quad` 0
abbrev lopsided : List Float
lopsided = 1ᶠ ∷ 0ᶠ ∷ 2ᶠ ∷ 1ᶠ ∷ []

abbrev zeros : List Float
zeros = 0ᶠ ∷ 0ᶠ ∷ 0ᶠ ∷ 0ᶠ ∷ []

pub lower_read : (factor_answer 2 lopsided zeros).0 ≡ Ok (Some (position_of 2))
unfolding add sub mul div le of_bits pick tab total get_elem taken reduced stored stop_from stop_of grid filled factor_rows factor_of
lower_read = refl

pub upper_read : sym_quad_answer 2 (position_of 2) (witness_answer 2 (position_of 2) (factor_answer 2 lopsided zeros).1 (0ᶠ ∷ 0ᶠ ∷ [])).1 lopsided ≡ Ok (of_bits binary64 0x4014_0000_0000_0000)
unfolding add sub mul div neg le of_bits pick tab total get_elem taken reduced stored stop_from stop_of grid filled factor_rows factor_of witness_tail witness_of quad_term quad_of
upper_read = refl

-- an LMI of one unknown
pub one_unknown : lmi_answer 1 1 (0ᶠ ∷ []) (0ᶠ ∷ []) (0ᶠ ∷ []) (record { storage = 0ᶠ ∷ []; wit = 0ᶠ ∷ []; grad = 0ᶠ ∷ [] }) ≡ (Err Dimension, record { storage = 0ᶠ ∷ []; wit = 0ᶠ ∷ []; grad = 0ᶠ ∷ [] })
unfolding lmi_answer pick
one_unknown = refl
