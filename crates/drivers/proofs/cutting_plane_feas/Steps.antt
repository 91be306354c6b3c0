-- A step from what its calls answered: the assessment, then the update. Assumes nothing.
use Rattle.std.specs.Prelude.{Some, None, Ok, Err}
use mathlib.Core.Path.{◌≡◌, sym, ap, ◌∙◌}
use mathlib.Core.List.{List}
use Prim.Native.Nat.{ℕ}
use lib.Ieee.{Float}
use Rattle.numbers.specs.declared.refusal.Refusal.{Refusal}
use Rattle.oracles.specs.LowpassOracle.{assess_feas_answer}
use Rattle.oracles.specs.Ell.{EllBuffers, ell_update_answer}
use Rattle.oracles.specs.declared.ell.EllUpdate.{EllUpdate}
use Rattle.oracles.specs.declared.ell_common.CutStrategy.TheVariants.{BiasCut}
use Rattle.oracles.specs.declared.lowpass_oracle.Cut.{Cut}
use Rattle.oracles.specs.declared.lowpass_oracle.Assessed.{Assessed}
use Rattle.drivers.specs.CuttingPlane.{State}
use Rattle.drivers.specs.CuttingPlaneFeas.{cut_answer, feas_cut, feas_step, StepAnswer}

-- the assessment r left the gradient g

module _ (rows : ℕ) (table : List Float) (s : State) (r : Assessed) (g : List Float) (e : (r, g) ≡ assess_feas_answer s.oracle s.ell.ndim rows table s.buffers.xc s.grad) where
  assessed : feas_cut s r.oracle r.verdict g ≡ feas_step rows table s
  unfolding feas_step
  assessed = ap (λ (a : Assessed × List Float). feas_cut s a.0.oracle a.0.verdict a.1) e

  pub step_feasible : r.verdict ≡ Ok None → (Ok None, record { oracle = r.oracle; ell = s.ell; buffers = s.buffers; grad = g }) ≡ feas_step rows table s
  step_feasible v = sym (ap (λ w. feas_cut s r.oracle w g) v) ∙ assessed

  pub step_refused : (why : Refusal) → r.verdict ≡ Err why → (Err why, record { oracle = r.oracle; ell = s.ell; buffers = s.buffers; grad = g }) ≡ feas_step rows table s
  step_refused why v = sym (ap (λ w. feas_cut s r.oracle w g) v) ∙ assessed

  -- the update u left the buffers b, and `said` was made of it
  pub step_cut : (cut : Cut) → r.verdict ≡ Ok (Some cut) → (u : EllUpdate) (b : EllBuffers) → (u, b) ≡ ell_update_answer s.ell BiasCut g cut.beta s.buffers
      → (answer : StepAnswer) → answer ≡ cut_answer cut u.answer → (answer, record { oracle = r.oracle; ell = u.ell; buffers = b; grad = g }) ≡ feas_step rows table s
  step_cut cut v u b d answer q =
      ap (λ w. (w, record { oracle = r.oracle; ell = u.ell; buffers = b; grad = g })) q
      ∙ ap (λ (w : EllUpdate × EllBuffers). (cut_answer cut w.0.answer, record { oracle = r.oracle; ell = w.0.ell; buffers = w.1; grad = g })) d
      ∙ sym (ap (λ w. feas_cut s r.oracle w g) v)
      ∙ assessed
