-- `drivers::belongs::belongs` meets its contract. Assumes nothing.
use mathlib.Core.Path.{◌≡◌, refl, sym, ap, ◌∙◌}
use mathlib.Core.List.{List}
use Prim.Native.Nat.{ℕ}
use lib.Ieee.{Float}
use Rattle.oracles.specs.LowpassOracle.{assess_feas_answer}
use Rattle.oracles.specs.declared.lowpass_oracle.LowpassOracle.{LowpassOracle}
use Rattle.oracles.specs.declared.lowpass_oracle.Assessed.{Assessed}
use Rattle.drivers.specs.laws.Belongs.{no_dimension, no_length, belongs_by, belonging_of}
use Rattle.numbers.specs.laws.Pick.{hit, skip}
use Rattle.numbers.specs.laws.Refusal.{asked_ok, asked_err, gone}
use Rattle.numbers.specs.declared.refusal.Refusal.{Refusal}
use Rattle.std.specs.Prelude.{Bool, Result}
use Rattle.drivers.proofs.belongs.belongs.Goals as goal

-- the oracle of a job assesses as what it starts with
by_oracle : (o o' : LowpassOracle) (n rows : ℕ) (table x grad : List Float) {r : Assessed × List Float} → o ≡ o' → r ≡ assess_feas_answer o n rows table x grad → r ≡ assess_feas_answer o' n rows table x grad
by_oracle o o' n rows table x grad h e = e ∙ ap (λ (q : LowpassOracle). assess_feas_answer q n rows table x grad) h

pub returns-in_err-dimension : goal.returns-in_err-dimension
returns-in_err-dimension c =
    let a = c.args in
    let q = asked_err _ _ c.dimension.ensures.value c.in_err-dimension.was in
    ap (λ (r : Result Bool Refusal). (r, a.grad.now)) (gone c.from_residual.ensures.1 q.1) ∙ no_dimension a.job a.table.now a.x.now a.answer a.point.now a.grad.now q.0

pub returns-in_err-lengths : goal.returns-in_err-lengths
returns-in_err-lengths c =
    let a = c.args in
    let q = asked_err _ _ c.lengths.ensures.value c.in_err-lengths.was in
    ap (λ (r : Result Bool Refusal). (r, a.grad.now)) (gone c.from_residual-in_err-lengths.ensures.1 q.1)
    ∙ no_length a.job a.table.now a.x.now a.answer a.point.now a.grad.now (asked_ok _ _ c.dimension.ensures.value c.in_ok-dimension.was) q.0

pub returns-then-answer : goal.returns-then-answer
returns-then-answer c =
    let f = c.assess_feas-assessed in
    let a = c.args in
    let t = c.if-answer.true in
    belongs_by a.job a.table.now a.x.now a.answer a.point.now a.grad.now (asked_ok _ _ c.lengths.ensures.value c.in_ok-lengths.was) _ (hit _ _ _ _ t refl)
    f.result _ (by_oracle _ _ _ _ _ _ _ c.oracle-oracle.ensures f.ensures.grad_after) _ (c.belonging_of.ensures ∙ ap (belonging_of f.result.verdict) (sym t))

pub returns : goal.returns
returns c =
    let f = c.assess_feas-assessed-2 in
    let a = c.args in
    let t = c.if-answer.false in
    belongs_by a.job a.table.now a.x.now a.answer a.point.now a.grad.now (asked_ok _ _ c.lengths.ensures.value c.in_ok-lengths.was) _ (skip _ _ _ _ t refl)
    f.result _ (by_oracle _ _ _ _ _ _ _ c.oracle-oracle.ensures f.ensures.grad_after) _ (c.belonging_of-2.ensures ∙ ap (belonging_of f.result.verdict) (sym t))
