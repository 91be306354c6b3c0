-- `oracles::round_robin::RoundRobin::new_range` meets its contract. Assumes nothing.
use mathlib.Core.Path.{◌≡◌, refl, sym, ◌∙◌}
use Rattle.std.specs.Prelude.{Ok, Err}
use mathlib.Core.Bool.{Bool, true, false, ◌&&◌}
use lib.IntN.{ℤ, pos, ◌-ℤ◌}
use lib.Signed.{le_z}
use mir.Syntax.{w32}
use mir.Val.{SFits}
use mir.Facts.{to_z-of_z}
use Rattle.oracles.specs.RoundRobin.{is_band, new_range_answer}
use Rattle.numbers.specs.declared.refusal.Refusal.TheVariants.{Band}
use Rattle.numbers.specs.laws.Pick.{and_parts}
use Rattle.numbers.specs.laws.Refusal.{asked_ok, asked_err, gone, failed, held, refuses, accepts}
use Rattle.oracles.proofs.Signed.{read, pred_fits}
use Rattle.oracles.proofs.round_robin.RoundRobin.new_range.Goals as goal

-- both numbers fit, and are read back as they are
module _ {lo hi : ℤ} (fl : SFits w32 lo) (fh : SFits w32 hi) {t : Bool} (e : t ≡ is_band (read lo) (read hi)) where
  same : t ≡ is_band lo hi
  same = e ∙ (λ i. is_band (to_z-of_z fl i) (to_z-of_z fh i))

  before_fits : t ≡ true → SFits w32 (read lo -ℤ pos 1)
  before_fits h = rw (to_z-of_z fl) (pred_fits lo (and_parts (le_z (pos 0) lo) (le_z lo hi) (and_parts (le_z (pos 0) lo && le_z lo hi) (le_z hi (pos 1024)) (sym same ∙ h)).0).0 fl)

  refused : t ≡ false → Err Band ≡ new_range_answer lo hi
  unfolding new_range_answer
  refused h = refuses _ _ _ (failed (sym same ∙ h)) refl

  made : t ≡ true → Ok (record { cur = read (read lo -ℤ pos 1); lo = read lo; hi = read hi }) ≡ new_range_answer lo hi
  unfolding new_range_answer
  made h = accepts _ _ _ (held _ _ (sym same ∙ h)) (rw (to_z-of_z (before_fits h), to_z-of_z fl, to_z-of_z fh))

pub returns-in_err-ask : goal.returns-in_err-ask
returns-in_err-ask c =
    let p = asked_err _ _ c.ask.ensures.value c.in_err-ask.was in
    gone c.from_residual.ensures.1 p.1 ∙ refused c.ranges.lo c.ranges.hi c.is_band.ensures p.0

pub returns : goal.returns
returns c = made c.ranges.lo c.ranges.hi c.is_band.ensures (asked_ok _ _ c.ask.ensures.value c.in_ok-ask.was)
