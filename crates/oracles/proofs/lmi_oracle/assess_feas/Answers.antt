-- `oracles::lmi_oracle::assess_feas` meets its contract. Assumes nothing.
use Rattle.std.proofs.Common.{◌≡◌, rules, length}
use Rattle.numbers.specs.laws.Refusal.{at_first, at_next, asked_fault, asked_sound, exits}
use Rattle.oracles.specs.LmiOracle.{lmi_buffers, lmi_answer}
use Rattle.oracles.proofs.lmi_oracle.Laws.{accepted_of}
use Rattle.oracles.proofs.lmi_oracle.assess_feas.Goals as goal

pub returns-in_err-order : goal.returns-in_err-order
unfolding lmi_answer
returns-in_err-order c =
    let a = c.args in
    exits (λ r. (r, lmi_buffers a.storage.now a.wit.now a.grad.now)) _ _ c.from_residual.ensures.1 (at_first _ (asked_fault _ _ c.order.ensures.value c.in_err-order.was))

pub returns-in_err-dimension : goal.returns-in_err-dimension
unfolding lmi_answer
returns-in_err-dimension c =
    let a = c.args in
    exits (λ r. (r, lmi_buffers a.storage.now a.wit.now a.grad.now)) _ _ c.from_residual-in_err-dimension.ensures.1
    (at_next (asked_sound _ _ c.order.ensures.value c.in_ok-order.was) (at_first _ (asked_fault _ _ c.dimension.ensures.value c.in_err-dimension.was)))

pub returns-in_err-lengths : goal.returns-in_err-lengths
unfolding lmi_answer
returns-in_err-lengths c =
    let a = c.args in
    exits (λ r. (r, lmi_buffers a.storage.now a.wit.now a.grad.now)) _ _ c.from_residual-in_err-lengths.ensures.1
    (at_next (asked_sound _ _ c.order.ensures.value c.in_ok-order.was)
    (at_next (asked_sound _ _ c.dimension.ensures.value c.in_ok-dimension.was) (asked_fault _ _ c.lengths.ensures.value c.in_err-lengths.was)))

pub returns : goal.returns
returns c =
    let a = c.args in
    let e : length a.xc.now ≡ a.n = search rules in
    accepted_of a.m a.n a.mat_b.now a.mat_f.now a.xc.now (lmi_buffers a.storage.now a.wit.now a.grad.now) _ _
    (at_next (asked_sound _ _ c.order.ensures.value c.in_ok-order.was)
    (at_next (asked_sound _ _ c.dimension.ensures.value c.in_ok-dimension.was) (asked_sound _ _ c.lengths.ensures.value c.in_ok-lengths.was)))
    (rw e at c.assess.ensures)
