-- Laws that the proofs of both ellipsoids use. Assumes nothing.
use Rattle.std.specs.Prelude.{Err, Ok, Result, ⊤}
use Rattle.numbers.specs.Refusal.{Sound, Tests}
use mathlib.Core.Path.{◌≡◌, refl, sym, ap, ◌∙◌}
use mathlib.Core.Bool.{Bool, true, false, not}
use mathlib.Core.List.{List}
use Prim.Native.Nat.{ℕ, ◌≤◌, ◌*◌}
use native.Mathlib.Omega.{arith}
use borrow.Author.Tests.{leb-true, eq-eqb}
use lib.Dec.{leb}
use lib.ListN.{length}
use lib.Ieee.{Float}
use Rattle.numbers.specs.Arr.{is_dimension, mv_of, fills, dot_mv_into_tests, dot_mv_into_answer}
use Rattle.numbers.specs.F64.{◌⊗◌}
use Rattle.numbers.specs.EllCalc.{made, new_answer, new_tests}
use Rattle.numbers.specs.laws.Pick.{hit, skip, and_parts}
use Rattle.numbers.specs.laws.Refusal.{held, at_next, accepts, unless_map}
use Rattle.numbers.specs.declared.refusal.Refusal.{Refusal}
use Rattle.numbers.specs.declared.cut.CutAnswer.{CutAnswer}
use Rattle.numbers.specs.declared.cut.CutStatus.{CutStatus}
use Rattle.numbers.specs.declared.cut.CutStatus.TheVariants.{Success, NoSoln, NoEffect}
use Rattle.numbers.specs.contracts.cut.CutStatus as Y
use denote.Enum.Bare.{sameb}
use Rattle.numbers.specs.declared.ell_calc.EllCalc.{EllCalc}
use Rattle.oracles.specs.EllCommon.{is_tiny, is_success, new_of, Work, Change, change, answer_of, update_of}

-- what the calls of numbers that fill a list leave in it, where they refuse nothing
filled : (tests : Tests) (new old : List Float) (p : Result ⊤ Refusal × List Float) → p ≡ fills tests new old → Sound ≡ tests → p.1 ≡ new
filled tests new old p e h = ap (λ (q : Result ⊤ Refusal × List Float). q.1) (e ∙ sym (accepts _ _ tests h refl))

pub multiplied : (n : ℕ) (mat x out : List Float) (p : Result ⊤ Refusal × List Float) → p ≡ dot_mv_into_answer n mat x out → is_dimension n ≡ true
    → length mat ≡ n * n → length x ≡ n → length out ≡ n → p.1 ≡ mv_of n mat x
multiplied n mat x out p e d h k l = filled (dot_mv_into_tests n mat x out) (mv_of n mat x) out p e (at_next (held _ _ d) (held _ _ (rw (eq-eqb (length mat) (n * n) h, eq-eqb (length x) n k, eq-eqb (length out) n l))))

pub dimension_least : (n : ℕ) → is_dimension n ≡ true → 1 ≤ n
dimension_least n h = omega (arith, leb-true 2 n (and_parts (leb 2 n) (leb n 32) h).0)

-- ---- what `new_with_matrix` makes of the calculators' answer

abbrev from_calc : {X : Type 0} → (Refusal → X) → (EllCalc → X) → Result EllCalc Refusal → X
from_calc refused fresh (Ok helper) = fresh helper
from_calc refused fresh (Err why) = refused why

pub made_from : {X : Type 0} (refused : Refusal → X) (fresh : EllCalc → X) (n : ℕ) (a : (Result EllCalc Refusal)) → a ≡ new_answer n → from_calc refused fresh a ≡ new_of refused (fresh (made n)) n
unfolding new_answer
made_from refused fresh n a e = ap (from_calc refused fresh) e ∙ unless_map (from_calc refused fresh) (new_tests n) (λ why place. Err why) (Ok (made n))

-- ---- the ways through an update, from what its calls answered; c is what it leaves

module _ {B : Type 0} (w : Work B) (c : Change B) (omega : Float) (tiny : Bool) (o : omega ≡ w.omega) (t : tiny ≡ is_tiny omega) where
  tiny_is : is_tiny w.omega ≡ tiny
  tiny_is = sym (t ∙ ap is_tiny o)

  pub no_effect : tiny ≡ true → c ≡ change (Ok NoEffect) w.kappa w.tsq w.prepared → c ≡ update_of w
  unfolding update_of
  no_effect h q = hit _ _ _ _ (tiny_is ∙ h) q

  -- a success with this answer of the calculator, and this omega
  abbrev pub succeeding : CutAnswer → Float → Change B
  succeeding a x = let s = w.success (w.kappa ⊗ a.params.delta) a.params in change (Ok a.status) s.0 (w.kappa ⊗ x) s.1

  module _ (a : CutAnswer) (ok : Bool) (k : a ≡ w.calculator (w.kappa ⊗ omega)) (u : ok ≡ is_success a.status) (h : tiny ≡ false) where
    answer_is : answer_of w ≡ a
    answer_is = sym (k ∙ ap (λ (x : Float). w.calculator (w.kappa ⊗ x)) o)

    pub fails : not ok ≡ true → c ≡ change (Ok a.status) w.kappa (w.kappa ⊗ omega) w.prepared → c ≡ update_of w
    unfolding update_of
    fails f q = skip _ _ _ _ (tiny_is ∙ h) (hit _ _ _ _ (rw (answer_is, ← u) f) (rw (answer_is, ← o) q))

    pub succeeds : not ok ≡ false → c ≡ succeeding a omega → c ≡ update_of w
    unfolding update_of
    succeeds f q = skip _ _ _ _ (tiny_is ∙ h) (skip _ _ _ _ (rw (answer_is, ← u) f) (q ∙ ap (λ (x : CutAnswer). succeeding x omega) (sym answer_is) ∙ ap (succeeding (answer_of w)) o))

-- ---- a status that is compared with Success

same_success : (s : CutStatus) → sameb Y.the_type s Success ≡ is_success s
same_success Success = refl
same_success NoSoln = refl
same_success NoEffect = refl

pub unlike : (s : CutStatus) {t : Bool} → t ≡ not (sameb Y.the_type s Success) → {v : Bool} → t ≡ v → not (is_success s) ≡ v
unlike s e h = ap not (sym (same_success s)) ∙ sym e ∙ h
