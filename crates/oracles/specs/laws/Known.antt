-- Document 01, "Known values (P: proved)": all of them, of both layers, as one table with a single proof.
-- A row has what a definition gives and what the document says, each as words: a float as its bits, an answer as its numbers in order.
use Rattle.numbers.specs.declared.refusal.Refusal.{Refusal}
use Rattle.std.specs.Prelude.{ℕ, ◌-◌, ◌≡◌, refl, true, cond, List, [], ◌∷◌, ◌++◌, map, ℤ, pos, negsuc, Float, Err, Ok, Result, Some, None, Option}
use Rattle.std.specs.Float.{binary64}
use Rattle.std.specs.Float.Ieee.{add, neg, lt, sub, mul, div, le, of_int, of_bits, to_bits}
use Rattle.numbers.specs.Pick.{pick}
use Rattle.numbers.specs.Sqrt.{isqrt_to, isqrt, rounded, sqrt_of}
use Rattle.numbers.specs.F64.{0ᶠ, 1ᶠ, 2ᶠ}
use Rattle.numbers.specs.Arr.{tab, dot_from, dot_of, set_diag, diag_of}
use Rattle.numbers.specs.Cut.{status_number, chosen}
use Rattle.numbers.specs.EllCalcCore.{core_new, core_parallel_bias_cut_fast, core_bias_cut_fast, core_bias_cut}
use Rattle.numbers.specs.EllCalc.{made, calc_bias_cut, calc_bias_cut_q, calc_parallel_impl, calc_parallel_bias_cut}
use Rattle.oracles.specs.RoundRobin.{fresh, advanced}
use Rattle.oracles.specs.Scan.{−∞, none, scan_from, scan_of}
use Rattle.oracles.specs.Table.{value_of}
use Rattle.oracles.specs.LowpassOracle.{group_number, group_side, assess_sign, assess_middle, assess_stop, assess_of, assess_feas_answer, Verdict}
use Rattle.oracles.specs.Matrix.{grid, total}
use Rattle.oracles.specs.LdltMgr.{get_elem, taken, reduced, stored, stop_from, stop_of, filled, position_of, factor_rows, factor_of, factor_answer, witness_tail, witness_of, witness_answer, quad_term, quad_of, sym_quad_answer}
use Rattle.oracles.specs.declared.lowpass_oracle.LowpassOracle.{LowpassOracle}
use Rattle.oracles.specs.declared.lowpass_oracle.Assessed.{Assessed}
use Rattle.oracles.specs.declared.lowpass_oracle.Group.{Group}
use Rattle.oracles.specs.declared.lowpass_oracle.Group.TheVariants.{Pass, Stop, Middle, Sign}
use Rattle.numbers.specs.declared.cut.CutAnswer.{CutAnswer}
use Rattle.numbers.specs.declared.cut.CutStatus.{CutStatus}
use Rattle.numbers.specs.declared.cut.CutStatus.TheVariants.{Success, NoSoln, NoEffect}
use Rattle.oracles.specs.declared.ldlt_mgr.Pos.{Pos}

pub record Row : Type 0 where
  pub got : List ℕ
  pub expected : List ℕ

-- the root of the number with the bits x
abbrev root : ℕ → ℕ → Row
root x y = record { got = to_bits binary64 (sqrt_of (of_bits binary64 x)) ∷ []; expected = y ∷ [] }

-- an answer's status number, and the bits of its three numbers
abbrev answer : CutAnswer → CutStatus → ℕ → ℕ → ℕ → Row
answer a status rho sigma delta =
    record {
      got = status_number a.status ∷ to_bits binary64 a.params.rho ∷ to_bits binary64 a.params.sigma ∷ to_bits binary64 a.params.delta ∷ [];
      expected = status_number status ∷ rho ∷ sigma ∷ delta ∷ [];
    }

-- the calculators of dimension 2 at numbers with these bits
abbrev bias_cut : ℕ → ℕ → CutAnswer
bias_cut beta tsq = calc_bias_cut (made 2) (of_bits binary64 beta) (of_bits binary64 tsq)

abbrev bias_cut_q : ℕ → ℕ → CutAnswer
bias_cut_q beta tsq = calc_bias_cut_q (made 2) (of_bits binary64 beta) (of_bits binary64 tsq)

abbrev parallel_bias_cut : ℕ → ℕ → ℕ → CutAnswer
parallel_bias_cut beta0 beta1 tsq = calc_parallel_bias_cut (made 2) (of_bits binary64 beta0) (of_bits binary64 beta1) (of_bits binary64 tsq)

-- ---- the second layer

-- small numbers as floats
abbrev 3ᶠ : Float
3ᶠ = of_bits binary64 0x4008_0000_0000_0000

abbrev ³⁄₂ : Float
³⁄₂ = of_bits binary64 0x3ff8_0000_0000_0000

-- the matrix 1 2 / 2 1, its storage, and its witness
abbrev mat : List Float
mat = 1ᶠ ∷ 2ᶠ ∷ 2ᶠ ∷ 1ᶠ ∷ []

abbrev zeros : List Float
zeros = 0ᶠ ∷ 0ᶠ ∷ 0ᶠ ∷ 0ᶠ ∷ []

abbrev storage : List Float
storage = (factor_answer 2 mat zeros).1

abbrev wit : List Float
wit = (witness_answer 2 (position_of 2) storage (0ᶠ ∷ 0ᶠ ∷ [])).1

abbrev floats : List Float → List ℕ
floats = map (to_bits binary64)

-- where a factorization stopped; definite is (0, 0)
abbrev place : Result (Option Pos) Refusal → List ℕ
place (Ok None) = 0 ∷ 0 ∷ []
place (Ok (Some p)) = p.start ∷ p.end ∷ []
place (Err why) = []

abbrev number : Result Float Refusal → List ℕ
number (Ok x) = to_bits binary64 x ∷ []
number (Err why) = []

-- three rows of 2, and a fresh oracle over them: nwpass 1, nwstop 2, limits 1, 2, 4
abbrev table : List Float
table = 1ᶠ ∷ 0ᶠ ∷ 1ᶠ ∷ 1ᶠ ∷ 0ᶠ ∷ 1ᶠ ∷ []

abbrev oracle : LowpassOracle
oracle = record {
  more_alt = true;
  idx1 = negsuc 0;
  nwpass = pos 1;
  nwstop = pos 2;
  lp_sq = 1ᶠ;
  up_sq = 2ᶠ;
  sp_sq = of_bits binary64 0x4010_0000_0000_0000;
  idx2 = pos 0;
  idx3 = pos 1;
  fmax = −∞;
  kmax = none;
  rr1 = fresh (pos 0) (pos 1);
  rr2 = fresh (pos 1) (pos 2);
  rr3 = fresh (pos 2) (pos 3);
}

-- a signed number as a word of 64 bits
abbrev signed : ℤ → ℕ
signed (pos n) = n
signed (negsuc n) = 0xffff_ffff_ffff_ffff - n

-- a verdict's words: 4 is feasible, else the group, its row if it has one, 1 for over and 0 for under, and the betas
abbrev row : Group → List ℕ
row (Pass i over) = i ∷ []
row (Stop i over) = i ∷ []
row (Middle i) = i ∷ []
row Sign = []

abbrev verdict : Verdict → List ℕ
verdict (Ok None) = 4 ∷ []
verdict (Ok (Some c)) = group_number c.group ∷ row c.group ++ cond (group_side c.group) 1 0 ∷ chosen c.beta (λ beta0. floats (beta0 ∷ [])) (λ beta0 beta1. floats (beta0 ∷ beta1 ∷ []))
verdict (Err why) = []

abbrev assess : Float → Float → Assessed
assess x₀ x₁ = (assess_feas_answer oracle 2 3 table (x₀ ∷ x₁ ∷ []) (0ᶠ ∷ 0ᶠ ∷ [])).0

abbrev pub rows : List Row
rows =
    -- the root of 4 is 2
    root 0x4010_0000_0000_0000 0x4000_0000_0000_0000 ∷
    -- of 2
    root 0x4000_0000_0000_0000 0x3ff6_a09e_667f_3bcd ∷
    -- of 2 ^ -1074 it is 2 ^ -537
    root 0x0000_0000_0000_0001 0x1e60_0000_0000_0000 ∷
    -- of the largest finite number
    root 0x7fef_ffff_ffff_ffff 0x5fef_ffff_ffff_ffff ∷
    -- of −0 it is −0
    root 0x8000_0000_0000_0000 0x8000_0000_0000_0000 ∷
    -- calc_bias_cut(1, 0.25)
    answer (bias_cut 0x3ff0_0000_0000_0000 0x3fd0_0000_0000_0000) NoSoln 0 0 0 ∷
    -- calc_bias_cut(2, 4): (2, 1, 0)
    answer (bias_cut 0x4000_0000_0000_0000 0x4010_0000_0000_0000) Success 0x4000_0000_0000_0000 0x3ff0_0000_0000_0000 0 ∷
    -- calc_bias_cut_q(−1, 4)
    answer (bias_cut_q 0xbff0_0000_0000_0000 0x4010_0000_0000_0000) NoEffect 0 0 0x3ff0_0000_0000_0000 ∷
    -- calc_parallel_bias_cut(1, 0.5, 4)
    answer (parallel_bias_cut 0x3ff0_0000_0000_0000 0x3fe0_0000_0000_0000 0x4010_0000_0000_0000) NoSoln 0 0 0 ∷
    -- calc_parallel_bias_cut(1, 1, 4): (1, 1, 1.5)
    answer (parallel_bias_cut 0x3ff0_0000_0000_0000 0x3ff0_0000_0000_0000 0x4010_0000_0000_0000) Success 0x3ff0_0000_0000_0000 0x3ff0_0000_0000_0000 0x3ff8_0000_0000_0000 ∷
    -- 1 2 / 2 1 stops at (0, 2)
    record { got = place (factor_answer 2 mat zeros).0; expected = 0 ∷ 2 ∷ [] } ∷
    -- its witness is (−2, 1)
    record { got = floats wit; expected = 0xc000_0000_0000_0000 ∷ 0x3ff0_0000_0000_0000 ∷ [] } ∷
    -- and the value 3
    record { got = number (witness_answer 2 (position_of 2) storage (0ᶠ ∷ 0ᶠ ∷ [])).0; expected = 0x4008_0000_0000_0000 ∷ [] } ∷
    -- sym_quad of it is −3, of the identity 5
    record { got = number (sym_quad_answer 2 (position_of 2) wit mat); expected = 0xc008_0000_0000_0000 ∷ [] } ∷
    record { got = number (sym_quad_answer 2 (position_of 2) wit (diag_of 2 (1ᶠ ∷ 1ᶠ ∷ []))); expected = 0x4014_0000_0000_0000 ∷ [] } ∷
    -- the 1 by 1 zero stops at (0, 1), with the value −0
    record { got = place (factor_answer 1 (0ᶠ ∷ []) (0ᶠ ∷ [])).0; expected = 0 ∷ 1 ∷ [] } ∷
    record { got = number (witness_answer 1 (position_of 1) (factor_answer 1 (0ᶠ ∷ []) (0ᶠ ∷ [])).1 (0ᶠ ∷ [])).0; expected = 0x8000_0000_0000_0000 ∷ [] } ∷
    -- (1.5, 1) is feasible, with fmax 1 and kmax 2
    record { got = verdict (assess ³⁄₂ 1ᶠ).verdict; expected = 4 ∷ [] } ∷
    record { got = to_bits binary64 (assess ³⁄₂ 1ᶠ).oracle.fmax ∷ signed (assess ³⁄₂ 1ᶠ).oracle.kmax ∷ []; expected = 0x3ff0_0000_0000_0000 ∷ 2 ∷ [] } ∷
    -- (3, 1): row 0 over, betas 1, 2
    record { got = verdict (assess 3ᶠ 1ᶠ).verdict; expected = 0 ∷ 0 ∷ 1 ∷ 0x3ff0_0000_0000_0000 ∷ 0x4000_0000_0000_0000 ∷ [] } ∷
    []

pub known : map (λ r. r.got) rows ≡ map (λ r. r.expected) rows
unfolding add neg lt sub mul div le tab of_int of_bits to_bits pick isqrt_to isqrt rounded sqrt_of core_new core_parallel_bias_cut_fast core_bias_cut_fast core_bias_cut made calc_bias_cut calc_bias_cut_q calc_parallel_impl calc_parallel_bias_cut dot_from dot_of set_diag diag_of advanced value_of scan_from scan_of assess_sign assess_middle assess_stop assess_of assess_feas_answer grid total get_elem taken reduced stored stop_from stop_of filled factor_rows factor_of witness_tail witness_of quad_term quad_of
known = refl
