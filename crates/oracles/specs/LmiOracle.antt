-- The LMI assessment: is mat_b − Σ xc[k] mat_f[k] positive definite (lmi_oracle.rs, lmi_oracle_base.rs)? Definitions only.
use Rattle.std.specs.Prelude.{ℕ, ◌-◌, ◌*◌, Bool, ◌&&◌, List, eqb, length, take, drop, Float, Ok, Err, Some, None, Result, Option}
use Rattle.numbers.specs.declared.refusal.Refusal.{Refusal}
use Rattle.std.specs.Float.Ieee.{neg}
use Rattle.numbers.specs.F64.{◌⊗◌, 1ᶠ}
use Rattle.numbers.specs.Pick.{pick}
use Rattle.numbers.specs.Refusal.{◌⨾◌, unless, ask, Tests}
use Rattle.numbers.specs.Arr.{sized, tab}
use Rattle.numbers.specs.declared.refusal.Refusal.TheVariants.{Dimension}
use Rattle.numbers.specs.declared.cut.CutChoice.{CutChoice}
use Rattle.numbers.specs.declared.cut.CutChoice.TheVariants.{Single}
use Rattle.oracles.specs.Matrix.{at}
use Rattle.oracles.specs.LdltMgr.{is_order, get_elem, factor_rows, position_of, witness_of, quad_of}
use Rattle.oracles.specs.declared.ldlt_mgr.Pos.{Pos}
use Rattle.oracles.specs.declared.lmi_oracle.LmiCut.{LmiCut}

-- what a call leaves in the slices that it is lent to write
pub record LmiBuffers : Type 0 where
  pub storage : List Float
  pub wit : List Float
  pub grad : List Float

abbrev pub lmi_buffers : List Float → List Float → List Float → LmiBuffers
lmi_buffers storage wit grad = record { storage = storage; wit = wit; grad = grad }

-- mat_f[k], the part that begins at k × m²
abbrev pub mat_of : ℕ → List Float → ℕ → List Float
mat_of m mat_f k = take (m * m) (drop (k * (m * m)) mat_f)

-- the gradient: each mat_f[k]'s quadratic form at the witness, times the sign, which is 1
unfoldable pub lmi_gradient : ℕ → ℕ → Pos → List Float → List Float → List Float
lmi_gradient m n pos wit mat_f = tab (λ k. 1ᶠ ⊗ quad_of m pos wit (mat_of m mat_f k)) n

abbrev pub lmi_cut : Pos → CutChoice → Option LmiCut
lmi_cut pos beta = Some (record { pos = pos; beta = beta })

-- factor; where that stops, the witness, the negated last pivot and the gradient
unfoldable pub lmi_assess_of : ℕ → ℕ → List Float → List Float → List Float → LmiBuffers → Option LmiCut × LmiBuffers
lmi_assess_of m n mat_b mat_f xc b =
    let w = factor_rows (get_elem m mat_b mat_f xc) m b.storage in
    let e = w.0 in
    let storage = w.1 in
    let wit = witness_of m (position_of e) storage b.wit in
    pick (eqb e 0) (None, lmi_buffers storage b.wit b.grad)
    (lmi_cut (position_of e) (Single (neg (at m storage (e - 1) (e - 1)))), lmi_buffers storage wit (lmi_gradient m n (position_of e) wit mat_f))

-- the lengths that m and n say
abbrev pub lmi_fits : ℕ → ℕ → List Float → List Float → List Float → LmiBuffers → Bool
lmi_fits m n mat_b mat_f xc b =
    eqb (length mat_b) (m * m) && eqb (length mat_f) (n * (m * m)) && eqb (length xc) n
    && eqb (length b.storage) (m * m) && eqb (length b.wit) m && eqb (length b.grad) n

-- `assess_feas`: refusals 1 (m, then n) and 2
abbrev pub lmi_tests : ℕ → ℕ → List Float → List Float → List Float → LmiBuffers → Tests
lmi_tests m n mat_b mat_f xc b = ask (is_order m) Dimension ⨾ sized n (lmi_fits m n mat_b mat_f xc b)

unfoldable pub lmi_answer : ℕ → ℕ → List Float → List Float → List Float → LmiBuffers → Result (Option LmiCut) Refusal × LmiBuffers
lmi_answer m n mat_b mat_f xc b =
    let a = lmi_assess_of m n mat_b mat_f xc b in
    unless (lmi_tests m n mat_b mat_f xc b) (λ why place. (Err why, b)) (Ok a.0, a.1)
