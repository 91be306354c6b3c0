-- Laws that the proofs of lmi_oracle alone use. Assumes nothing.
use mathlib.Core.Path.{◌≡◌, refl, sym, ap, ◌∙◌}
use Rattle.std.specs.Prelude.{Ok, None, Some, Option}
use mathlib.Core.Bool.{false}
use mathlib.Core.List.{List}
use Prim.Native.Nat.{ℕ, ◌≤◌, ◌<◌, ◌+◌, ◌-◌, ◌*◌}
use native.Mathlib.Omega.{arith}
use lib.Dec.{eqb}
use lib.ListN.{length, take, drop, length-drop}
use lib.Seq.{length-take-le}
use lib.Ieee.{Float, neg}
use Rattle.numbers.specs.declared.cut.CutChoice.TheVariants.{Single}
use Rattle.numbers.specs.F64.{◌⊗◌, 1ᶠ}
use Rattle.numbers.specs.Arr.{tab}
use Rattle.numbers.specs.laws.Arr.{row_in}
use Rattle.numbers.specs.laws.Pick.{hit, skip}
use Rattle.numbers.specs.laws.Refusal.{accepts}
use Rattle.oracles.specs.Matrix.{at}
use Rattle.oracles.specs.LdltMgr.{get_elem, position_of, factor_rows, factored, witness_of, quad_of}
use Rattle.oracles.specs.laws.Ldlt.{rows_most}
use Rattle.oracles.proofs.ldlt_mgr.Laws.{none_is, some_is}
use Rattle.numbers.specs.Pick.{pick}
use Rattle.std.proofs.lemmas.Bool.{eqb-false}
use Rattle.oracles.specs.LmiOracle.{LmiBuffers, mat_of, lmi_gradient, lmi_assess_of, lmi_tests, lmi_answer, lmi_cut}
use Rattle.numbers.specs.Refusal.{Sound}
use Rattle.oracles.specs.declared.lmi_oracle.LmiCut.{LmiCut}
use Rattle.oracles.specs.declared.ldlt_mgr.Pos.{Pos}

-- ---- the gradient's loop

-- the lent part is mat_f[k]
part : (m k : ℕ) → k * (m * m) + m * m - k * (m * m) ≡ m * m
part m k = omega arith

pub part_long : (m n k : ℕ) (mat_f : List Float) → length mat_f ≡ n * (m * m) → k < n → length (take (k * (m * m) + m * m - k * (m * m)) (drop (k * (m * m)) mat_f)) ≡ m * m
part_long m n k mat_f l g =
    rw (part m k) (length-take-le (m * m) (drop (k * (m * m)) mat_f) (rw (length-drop (k * (m * m)) mat_f, l) (omega (arith, row_in (m * m) k n g))))

pub quad_is : (m k : ℕ) (pos : Pos) (wit mat_f : List Float) {q : Float} → q ≡ quad_of m pos wit (take (k * (m * m) + m * m - k * (m * m)) (drop (k * (m * m)) mat_f))
    → 1ᶠ ⊗ q ≡ 1ᶠ ⊗ quad_of m pos wit (mat_of m mat_f k)
quad_is m k pos wit mat_f e = rw (e, part m k)

pub gradient_is : (m n : ℕ) (pos : Pos) (wit mat_f grad : List Float) → length grad ≡ n → tab (λ k. 1ᶠ ⊗ quad_of m pos wit (mat_of m mat_f k)) (length grad) ≡ lmi_gradient m n pos wit mat_f
unfolding lmi_gradient
gradient_is m n pos wit mat_f grad e = rw e

-- ---- the assessment

-- `r` is what factor_rows answers, and `out` what it leaves of the storage
module _ (m n : ℕ) (mat_b mat_f xc : List Float) (b : LmiBuffers) (r : Option Pos) (out : List Float) (h : (r, out) ≡ factored (get_elem m mat_b mat_f xc) m b.storage) where
  -- the stop, and the storage
  abbrev ended : ℕ × List Float
  ended = factor_rows (get_elem m mat_b mat_f xc) m b.storage

  out_is : out ≡ ended.1
  out_is = ap (λ (w : Option Pos × List Float). w.1) h

  answered : r ≡ pick (eqb ended.0 0) None (Some (position_of ended.0))
  answered = ap (λ (w : Option Pos × List Float). w.0) h

  pub feasible : r ≡ None → (None, record { storage = out; wit = b.wit; grad = b.grad }) ≡ lmi_assess_of m n mat_b mat_f xc b
  unfolding lmi_assess_of
  feasible z = hit _ _ _ _ (none_is ended.0 (sym z ∙ answered)) (rw out_is)

  module _ (pos : Pos) (z : r ≡ Some pos) where
    stop_is : (eqb ended.0 0 ≡ false) × (pos ≡ position_of ended.0)
    stop_is = some_is ended.0 pos (sym z ∙ answered)

    -- rows 0 to the stop, of which there is one at least
    pub stop_in : (pos.start < pos.end) × (pos.end ≤ m)
    stop_in =
        let k = rows_most (get_elem m mat_b mat_f xc) m b.storage ended.0 ended.1 refl in
        let some = eqb-false ended.0 0 stop_is.0 in
        rw stop_is.1 (omega (arith, some), k)

    pub cuts : (wit grad : List Float) (d : Float) → wit ≡ witness_of m pos out b.wit → grad ≡ lmi_gradient m n pos wit mat_f
        → d ≡ at m out (pos.end - 1) (pos.end - 1) → (lmi_cut pos (Single (neg d)), record { storage = out; wit = wit; grad = grad }) ≡ lmi_assess_of m n mat_b mat_f xc b
    unfolding lmi_assess_of
    cuts wit grad d w g f = skip _ _ _ _ stop_is.0 (rw (g, w, f, stop_is.1, out_is))

pub accepted_of : (m n : ℕ) (mat_b mat_f xc : List Float) (b : LmiBuffers) (v : Option LmiCut) (w : LmiBuffers) → Sound ≡ lmi_tests m n mat_b mat_f xc b
    → (v, w) ≡ lmi_assess_of m n mat_b mat_f xc b → (Ok v, w) ≡ lmi_answer m n mat_b mat_f xc b
unfolding lmi_answer
accepted_of m n mat_b mat_f xc b v w t x = accepts _ _ _ t (ap (λ (a : Option LmiCut × LmiBuffers). (Ok a.0, a.1)) x)
