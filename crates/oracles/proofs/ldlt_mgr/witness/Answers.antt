-- `oracles::ldlt_mgr::witness` meets its contract. Assumes nothing.
use Rattle.std.proofs.Common.{refl}
use Rattle.numbers.specs.laws.Refusal.{at_first, at_next, asked_fault, asked_sound, exits, accepts}
use Rattle.oracles.proofs.ldlt_mgr.witness.Goals as goal

pub returns-in_err-order : goal.returns-in_err-order
returns-in_err-order c = exits (λ r. (r, c.args.wit.now)) _ _ c.from_residual.ensures.1 (at_first _ (at_first _ (asked_fault _ _ c.order.ensures.value c.in_err-order.was)))

pub returns-in_err-lengths : goal.returns-in_err-lengths
returns-in_err-lengths c =
    exits (λ r. (r, c.args.wit.now)) _ _ c.from_residual-in_err-lengths.ensures.1
    (at_first _ (at_next (asked_sound _ _ c.order.ensures.value c.in_ok-order.was) (asked_fault _ _ c.lengths.ensures.value c.in_err-lengths.was)))

pub returns-in_err-position : goal.returns-in_err-position
returns-in_err-position c =
    exits (λ r. (r, c.args.wit.now)) _ _ c.from_residual-in_err-position.ensures.1
    (at_next (at_next (asked_sound _ _ c.order.ensures.value c.in_ok-order.was) (asked_sound _ _ c.lengths.ensures.value c.in_ok-lengths.was))
    (asked_fault _ _ c.position.ensures.value c.in_err-position.was))

pub returns : goal.returns
returns c =
    rw (c.at.ensures, c.witness_into.ensures) (accepts _ _ _
    (at_next (at_next (asked_sound _ _ c.order.ensures.value c.in_ok-order.was) (asked_sound _ _ c.lengths.ensures.value c.in_ok-lengths.was))
    (asked_sound _ _ c.position.ensures.value c.in_ok-position.was))
    refl)
