-- `oracles::scan_band::first_refusal` meets its contract. Assumes nothing.
use Rattle.numbers.specs.laws.Refusal.{at_first, at_next, asked_fault, asked_sound, asked_last, exits}
use Rattle.oracles.proofs.scan_band.first_refusal.Goals as goal

pub returns-in_err-ask : goal.returns-in_err-ask
returns-in_err-ask c = exits (λ r. r) _ _ c.from_residual.ensures.1 (at_first _ (at_first _ (asked_fault _ _ c.ask.ensures.value c.in_err-ask.was)))

pub returns-in_err-ask-2 : goal.returns-in_err-ask-2
returns-in_err-ask-2 c =
    let d = asked_sound _ _ c.ask.ensures.value c.in_ok-ask.was in
    exits (λ r. r) _ _ c.from_residual-in_err-ask-2.ensures.1 (at_first _ (at_next d (asked_fault _ _ c.ask-2.ensures.value c.in_err-ask-2.was)))

pub returns-in_err-ask-3 : goal.returns-in_err-ask-3
returns-in_err-ask-3 c =
    let l = at_next (asked_sound _ _ c.ask.ensures.value c.in_ok-ask.was) (asked_sound _ _ c.ask-2.ensures.value c.in_ok-ask-2.was) in
    exits (λ r. r) _ _ c.from_residual-in_err-ask-3.ensures.1 (at_next l (at_first _ (asked_fault _ _ c.ask-3.ensures.value c.in_err-ask-3.was)))

pub returns : goal.returns
returns c =
    let l = at_next (asked_sound _ _ c.ask.ensures.value c.in_ok-ask.was) (asked_sound _ _ c.ask-2.ensures.value c.in_ok-ask-2.was) in
    asked_last _ _ _ c.ask-4.ensures.value (λ g e. at_next l (at_next (asked_sound _ _ c.ask-3.ensures.value c.in_ok-ask-3.was) e))
