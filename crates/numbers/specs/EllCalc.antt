-- The calculators (ell_calc.rs, `EllCalc`), in the Rust's order of tests. A test with a NaN in it is false. Definitions only.
use Rattle.numbers.specs.declared.refusal.Refusal.{Refusal}
use Rattle.std.specs.Prelude.{ℕ, Bool, true, false, not, ◌&&◌, ◌||◌, pos, Float, Err, Ok, Result}
use Rattle.std.specs.Float.{binary64}
use Rattle.std.specs.Float.Ieee.{lt, le, of_int}
use Rattle.numbers.specs.F64.{◌⊕◌, ◌⊗◌, 0ᶠ}
use Rattle.numbers.specs.Pick.{pick}
use Rattle.numbers.specs.Refusal.{unless, ask, Tests}
use Rattle.numbers.specs.Arr.{is_dimension}
use Rattle.numbers.specs.Sqrt.{sqrt_of}
use Rattle.numbers.specs.Cut.{success, no_soln, no_effect, chosen}
use Rattle.numbers.specs.EllCalcCore.{core_new, core_parallel_bias_cut_fast, core_parallel_central_cut, core_bias_cut_fast, core_bias_cut, core_central_cut}
use Rattle.numbers.specs.declared.cut.CutAnswer.{CutAnswer}
use Rattle.numbers.specs.declared.cut.CutChoice.{CutChoice}
use Rattle.numbers.specs.declared.refusal.Refusal.TheVariants.{Dimension}
use Rattle.numbers.specs.declared.ell_calc.EllCalc.{EllCalc}

-- the calculators of dimension n, with parallel cuts in use
unfoldable pub made : ℕ → EllCalc
made n = record { n_f = of_int binary64 (pos n); helper = core_new (of_int binary64 (pos n)); use_parallel_cut = true }

-- `EllCalc::new`: refusal 1 outside 2 to 32
abbrev pub new_tests : ℕ → Tests
new_tests n = ask (is_dimension n) Dimension

unfoldable pub new_answer : ℕ → Result EllCalc Refusal
new_answer n = unless (new_tests n) (λ why place. Err why) (Ok (made n))

-- one bound: nothing is left where tsq lies below its square
unfoldable pub calc_bias_cut : EllCalc → Float → Float → CutAnswer
calc_bias_cut c beta tsq =
    pick (lt tsq (beta ⊗ beta)) no_soln
    (success (core_bias_cut c.helper beta (sqrt_of tsq)))

-- the q form of one bound: it tests tau, the root, and then eta
unfoldable pub calc_bias_cut_q : EllCalc → Float → Float → CutAnswer
calc_bias_cut_q c beta tsq =
    let tau = sqrt_of tsq in
    let eta = tau ⊕ c.n_f ⊗ beta in
    pick (lt tau beta) no_soln
    (pick (le eta 0ᶠ) no_effect
    (success (core_bias_cut_fast c.helper beta tau eta)))

-- one bound that is zero: nothing is tested
unfoldable pub calc_central_cut : EllCalc → Float → CutAnswer
calc_central_cut c tsq = success (core_central_cut c.helper tsq)

-- beta1 lies at or beyond the ellipsoid's end, or is not to be used
abbrev pub single_instead : EllCalc → Float → Float → Bool
single_instead c beta1 tsq = lt 0ᶠ beta1 && le tsq (beta1 ⊗ beta1) || not c.use_parallel_cut

-- `discrete` is the q form: it falls back on `calc_bias_cut_q` and tests eta
unfoldable pub calc_parallel_impl : EllCalc → Float → Float → Float → Bool → CutAnswer
calc_parallel_impl c beta0 beta1 tsq discrete =
    let b0b1 = beta0 ⊗ beta1 in
    let eta = tsq ⊕ c.n_f ⊗ b0b1 in
    pick (lt beta1 beta0) no_soln
    (pick (single_instead c beta1 tsq) (pick discrete (calc_bias_cut_q c beta0 tsq) (calc_bias_cut c beta0 tsq))
    (pick (discrete && le eta 0ᶠ) no_effect
    (success (core_parallel_bias_cut_fast c.helper beta0 beta1 tsq b0b1 eta))))

-- two bounds, in the plain form and in the q form
unfoldable pub calc_parallel_bias_cut : EllCalc → Float → Float → Float → CutAnswer
calc_parallel_bias_cut c beta0 beta1 tsq = calc_parallel_impl c beta0 beta1 tsq false

unfoldable pub calc_parallel_q : EllCalc → Float → Float → Float → CutAnswer
calc_parallel_q c beta0 beta1 tsq = calc_parallel_impl c beta0 beta1 tsq true

-- two bounds of which the first is zero
unfoldable pub calc_parallel_central_cut : EllCalc → Float → Float → CutAnswer
calc_parallel_central_cut c beta1 tsq =
    pick (lt beta1 0ᶠ) no_soln
    (pick (le tsq (beta1 ⊗ beta1) || not c.use_parallel_cut) (calc_central_cut c tsq)
    (success (core_parallel_central_cut c.helper beta1 tsq)))

-- by one bound or by two
unfoldable pub calc_single_or_parallel_bias_cut : EllCalc → CutChoice → Float → CutAnswer
calc_single_or_parallel_bias_cut c beta tsq = chosen beta (λ beta0. calc_bias_cut c beta0 tsq) (λ beta0 beta1. calc_parallel_bias_cut c beta0 beta1 tsq)

-- the first bound is not looked at
unfoldable pub calc_single_or_parallel_central_cut : EllCalc → CutChoice → Float → CutAnswer
calc_single_or_parallel_central_cut c beta tsq = chosen beta (λ beta0. calc_central_cut c tsq) (λ beta0 beta1. calc_parallel_central_cut c beta1 tsq)

unfoldable pub calc_single_or_parallel_q : EllCalc → CutChoice → Float → CutAnswer
calc_single_or_parallel_q c beta tsq = chosen beta (λ beta0. calc_bias_cut_q c beta0 tsq) (λ beta0 beta1. calc_parallel_q c beta0 beta1 tsq)
