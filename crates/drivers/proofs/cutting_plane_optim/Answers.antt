-- What `cutting_plane_optim` answers, from what its calls answered: the tests, the run. Assumes nothing.
use Rattle.drivers.specs.declared.cutting_plane_optim.OptimStop.{OptimStop}
use Rattle.drivers.specs.declared.answer.Answer.{Answer}
use Rattle.std.specs.Prelude.{Result}
use Rattle.numbers.specs.Refusal.{At, Sound, Tests}
use mathlib.Core.Path.{◌≡◌, refl, sym, ap, ◌∙◌}
use mathlib.Core.List.{List}
use Prim.Native.Nat.{ℕ}
use lib.Ieee.{Float}
use Rattle.numbers.specs.declared.refusal.Refusal.{Refusal}
use Rattle.numbers.specs.laws.Refusal.{refuses, accepts}
use Rattle.drivers.specs.CuttingPlane.{run_tests}
use Rattle.drivers.specs.CuttingPlaneOptim.{OptimState, OptimEnd, plain, end_of, optim_run, optim_answer, optim_refused}
use Rattle.drivers.specs.laws.Refused.{optim_refused as refused_stays}
use Rattle.drivers.specs.declared.cutting_plane.Options.{Options}

-- the tests said k
module _ (options : Options) (rows : ℕ) (table : List Float) (s : OptimState) (k : Tests) (e : k ≡ run_tests rows table (plain s) s.best) where
  abbrev OptimPromised : OptimEnd → Type 0
  OptimPromised r = (r ≡ optim_answer options rows table s) × ((why : Refusal) → r.answer ≡ optim_refused why → r ≡ end_of r.answer s)

  optim_promised : (r : OptimEnd) → r ≡ optim_answer options rows table s → OptimPromised r
  optim_promised r d =
      (d, λ why h. d ∙ refused_stays options rows table s why (sym (ap (λ (z : OptimEnd). z.answer) d) ∙ h) ∙ ap (λ (a : (Result Answer OptimStop)). end_of a s) (sym h))

  pub optim_faulty : (why : Refusal) (place : ℕ) → k ≡ At why place → OptimPromised (end_of (optim_refused why) s)
  unfolding optim_answer
  optim_faulty why place w = optim_promised (end_of (optim_refused why) s) (refuses _ _ (run_tests rows table (plain s) s.best) (sym w ∙ e) refl)

  pub optim_done : k ≡ Sound → (r : OptimEnd) → r ≡ optim_run rows table options.tolerance options.max_iters 0 s → OptimPromised r
  unfolding optim_answer
  optim_done w r d = optim_promised r (accepts _ _ (run_tests rows table (plain s) s.best) (sym w ∙ e) d)
