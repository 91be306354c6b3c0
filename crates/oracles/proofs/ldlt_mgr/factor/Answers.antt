-- `oracles::ldlt_mgr::factor` meets its contract. Assumes nothing.
use Rattle.std.proofs.Common.{refl, ◌∙◌}
use Rattle.numbers.specs.laws.Refusal.{at_first, at_next, asked_fault, asked_sound, exits, accepts}
use Rattle.oracles.specs.LdltMgr.{get_elem}
use Rattle.oracles.proofs.ldlt_mgr.Laws.{said_of}
use Rattle.oracles.proofs.ldlt_mgr.factor.Goals as goal

pub returns-in_err-order : goal.returns-in_err-order
returns-in_err-order c = exits (λ r. (r, c.args.storage.now)) _ _ c.from_residual.ensures.1 (at_first _ (asked_fault _ _ c.order.ensures.value c.in_err-order.was))

pub returns-in_err-lengths : goal.returns-in_err-lengths
returns-in_err-lengths c =
    exits (λ r. (r, c.args.storage.now)) _ _ c.from_residual-in_err-lengths.ensures.1
    (at_next (asked_sound _ _ c.order.ensures.value c.in_ok-order.was) (asked_fault _ _ c.lengths.ensures.value c.in_err-lengths.was))

pub returns : goal.returns
returns c =
    said_of (get_elem _ _ _ _) _ _ _ c.factor_rows.ensures
    ∙ accepts _ _ _ (at_next (asked_sound _ _ c.order.ensures.value c.in_ok-order.was) (asked_sound _ _ c.lengths.ensures.value c.in_ok-lengths.was)) refl
