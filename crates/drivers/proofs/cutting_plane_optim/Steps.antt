-- A step from what its calls answered: the assessment, then the update. Assumes nothing.
use Rattle.numbers.specs.declared.cut.CutStatus.{CutStatus}
use Rattle.std.specs.Prelude.{Ok, Err, Result}
use mathlib.Core.Path.{◌≡◌, sym, ap, ◌∙◌}
use mathlib.Core.Bool.{true}
use mathlib.Core.List.{List}
use Prim.Native.Nat.{ℕ}
use lib.Ieee.{Float}
use Rattle.numbers.specs.declared.refusal.Refusal.{Refusal}
use Rattle.numbers.specs.declared.cut.CutChoice.{CutChoice}
use Rattle.oracles.specs.LowpassOracle.{assess_optim_answer}
use Rattle.oracles.specs.Ell.{EllBuffers, ell_update_answer}
use Rattle.oracles.specs.declared.ell.EllUpdate.{EllUpdate}
use Rattle.oracles.specs.declared.ell_common.CutStrategy.TheVariants.{BiasCut, CentralCut}
use Rattle.oracles.specs.declared.lowpass_oracle.Cut.{Cut}
use Rattle.oracles.specs.declared.lowpass_oracle.OptimVerdict.TheVariants.{Improved, Cut as CutOff}
use Rattle.oracles.specs.declared.lowpass_oracle.AssessedOptim.{AssessedOptim}
use Rattle.drivers.specs.CuttingPlaneOptim.{OptimState, optim_updated, optim_cut, optim_step}
use Rattle.drivers.specs.CuttingPlane.{kept}
use Rattle.drivers.specs.declared.cutting_plane_optim.OptimStep.{OptimStep}

-- the assessment r left the gradient g, and the step says q of itself

module _ (rows : ℕ) (table : List Float) (s : OptimState) (r : AssessedOptim) (g : List Float) (e : (r, g) ≡ assess_optim_answer s.oracle s.gamma s.ell.ndim rows table s.buffers.xc s.grad) where
  optim_assessed : optim_cut s r.oracle r.gamma r.verdict g ≡ optim_step rows table s
  unfolding optim_step
  optim_assessed = ap (λ (a : AssessedOptim × List Float). optim_cut s a.0.oracle a.0.gamma a.0.verdict a.1) e

  -- q, with the buffers b, the gradient and x_best as they are left
  abbrev pub stepped : OptimStep → EllBuffers → List Float → Result CutStatus Refusal × OptimState
  stepped q b best = (q.answer, record { oracle = q.oracle; ell = q.ell; buffers = b; grad = g; gamma = q.gamma; found = q.found; best = best })

  -- the update u left the buffers b
  module _ (u : EllUpdate) (b : EllBuffers) (q : OptimStep) where
    pub step_improved : (beta : CutChoice) → r.verdict ≡ Ok (Improved beta) → (u, b) ≡ ell_update_answer s.ell CentralCut g beta s.buffers
        → q ≡ record { oracle = r.oracle; ell = u.ell; gamma = r.gamma; found = true; answer = u.answer } → (best : List Float) → best ≡ kept true s.buffers.xc s.best
        → stepped q b best ≡ optim_step rows table s
    step_improved beta v d w best k =
        ap (λ (p : OptimStep). stepped p b best) w
        ∙ ap (λ (l : List Float). (u.answer, record { oracle = r.oracle; ell = u.ell; buffers = b; grad = g; gamma = r.gamma; found = true; best = l })) k
        ∙ ap (optim_updated s r.oracle r.gamma g true (kept true s.buffers.xc s.best)) d
        ∙ sym (ap (λ z. optim_cut s r.oracle r.gamma z g) v)
        ∙ optim_assessed

    pub step_cut_off : (cut : Cut) → r.verdict ≡ Ok (CutOff cut) → (u, b) ≡ ell_update_answer s.ell BiasCut g cut.beta s.buffers
        → q ≡ record { oracle = r.oracle; ell = u.ell; gamma = r.gamma; found = s.found; answer = u.answer } → stepped q b s.best ≡ optim_step rows table s
    step_cut_off cut v d w =
        ap (λ (p : OptimStep). stepped p b s.best) w
        ∙ ap (optim_updated s r.oracle r.gamma g s.found s.best) d
        ∙ sym (ap (λ z. optim_cut s r.oracle r.gamma z g) v)
        ∙ optim_assessed

  pub step_halted : (why : Refusal) → r.verdict ≡ Err why
      → (Err why, record { oracle = r.oracle; ell = s.ell; buffers = s.buffers; grad = g; gamma = r.gamma; found = s.found; best = s.best }) ≡ optim_step rows table s
  step_halted why v = sym (ap (λ z. optim_cut s r.oracle r.gamma z g) v) ∙ optim_assessed
