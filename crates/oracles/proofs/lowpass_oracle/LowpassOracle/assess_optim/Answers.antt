-- `oracles::lowpass_oracle::LowpassOracle::assess_optim` meets its contract. Assumes nothing.
use mathlib.Core.Path.{◌≡◌, refl, ap, ◌∙◌}
use mathlib.Core.List.{List}
use Prim.Native.Nat.{ℕ}
use lib.Ieee.{Float}
use Rattle.std.specs.Prelude.{Option, Ok}
use Rattle.oracles.specs.LowpassOracle.{offered, assess_feas_answer, Verdict}
use Rattle.oracles.specs.declared.lowpass_oracle.Cut.{Cut}
use Rattle.oracles.specs.declared.lowpass_oracle.LowpassOracle.{LowpassOracle}
use Rattle.oracles.specs.declared.lowpass_oracle.Assessed.{Assessed}
use Rattle.oracles.proofs.lowpass_oracle.Answers.{feasible_leaves, optim_as}
use Rattle.oracles.proofs.lowpass_oracle.LowpassOracle.assess_optim.Goals as goal

-- a verdict by its two patterns
told : {a : Verdict} {v w : Option Cut} → a ≡ Ok v → v ≡ w → a ≡ Ok w
told e f = e ∙ ap Ok f

-- the answer of the oracle with the offered number
of_offered : (o : LowpassOracle) (gamma : Float) (n rows : ℕ) (table x grad : List Float) (o' : LowpassOracle) → o' ≡ offered o gamma → (p : Assessed × List Float)
    → p ≡ assess_feas_answer o' n rows table x grad → p ≡ assess_feas_answer (offered o gamma) n rows table x grad
of_offered o gamma n rows table x grad o' eo p e = e ∙ ap (λ (z : LowpassOracle). assess_feas_answer z n rows table x grad) eo

pub improved-requires : goal.improved-requires
improved-requires c =
    let a = c.args in
    feasible_leaves _ a.n a.rows a.table.now a.x.now a.grad.now c.assess_feas-assessed.result _
    (of_offered a.self a.gamma a.n a.rows a.table.now a.x.now a.grad.now _ c.offered-after.ensures _ c.assess_feas-assessed.ensures.grad_after) (told c.in-Ok.is c.in-None.is)

pub returns-in-None : goal.returns-in-None
returns-in-None c =
    let a = c.args in
    let p = optim_as a.self a.gamma a.n a.rows a.table.now a.x.now a.grad.now _ _ (of_offered a.self a.gamma a.n a.rows a.table.now a.x.now a.grad.now _ c.offered-after.ensures _ c.assess_feas-assessed.ensures.grad_after) _ (told c.in-Ok.is c.in-None.is) _ _ c.improved.ensures in
    record { grad_after = p.0; by_optim_rule = p.1 }

pub returns-in-Err : goal.returns-in-Err
returns-in-Err c =
    let a = c.args in
    let p = optim_as a.self a.gamma a.n a.rows a.table.now a.x.now a.grad.now _ _ (of_offered a.self a.gamma a.n a.rows a.table.now a.x.now a.grad.now _ c.offered-after.ensures _ c.assess_feas-assessed.ensures.grad_after) _ c.in-Err.is _ _ refl in
    record { grad_after = p.0; by_optim_rule = p.1 }
