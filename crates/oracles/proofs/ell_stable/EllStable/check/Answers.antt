-- `oracles::ell_stable::EllStable::check` meets its contract. Assumes nothing.
use Rattle.std.proofs.Common.{refl, rules}
use Rattle.numbers.specs.laws.Refusal.{at_first, at_next, asked_ok, asked_fault, asked_sound, exits, accepts}
use Rattle.oracles.specs.laws.EllStableCalls.{stable_long}
use Rattle.oracles.proofs.ell_stable.EllStable.check.Goals as goal

pub returns-in_err-dimension-clause-value : goal.returns-in_err-dimension-clause-value
returns-in_err-dimension-clause-value c = exits (λ r. r) _ _ c.from_residual.ensures.1 (at_first _ (asked_fault _ _ c.dimension.ensures.value c.in_err-dimension.was))

pub returns-in_err-lengths-clause-value : goal.returns-in_err-lengths-clause-value
returns-in_err-lengths-clause-value c =
    exits (λ r. r) _ _ c.from_residual-in_err-lengths.ensures.1
    (at_next (asked_sound _ _ c.dimension.ensures.value c.in_ok-dimension.was) (asked_fault _ _ c.lengths.ensures.value c.in_err-lengths.was))

pub returns : goal.returns
returns c = record {
  value = accepts _ _ _ (at_next (asked_sound _ _ c.dimension.ensures.value c.in_ok-dimension.was) (asked_sound _ _ c.lengths.ensures.value c.in_ok-lengths.was)) refl;
  fit = (asked_ok _ _ c.dimension.ensures.value c.in_ok-dimension.was, search rules, stable_long _ _ _ (asked_ok _ _ c.lengths.ensures.value c.in_ok-lengths.was));
}
