-- `commands::arguments::hex_value` meets its contract.
use Rattle.std.proofs.Common.{◌∙◌, sym, ap, arith, Some}
use Rattle.commands.specs.laws.Arguments.{digit_is, hex_none, hex_fits, hex_turn, hex_stop, hex_done, hex_short}
use Rattle.commands.specs.Arguments.{hex_digit}
use Rattle.commands.proofs.arguments.hex_value.Goals as goal

pub returns-then-word-ne-DIGITS : goal.returns-then-word-ne-DIGITS
returns-then-word-ne-DIGITS c = hex_short c.args.word.now c.if-word-ne-DIGITS.true

pub loop-i-init : goal.loop-i-init
loop-i-init c = hex_none c.args.word.now

pub returns-in_err-digit : goal.returns-in_err-digit
returns-in_err-digit c =
    let l = c.loop-i in
    c.from_residual.ensures
    ∙ hex_stop c.args.word.now l.value l.i l.invariant (omega (arith, c.loop-i-test.true, c.if-word-ne-DIGITS.false)) c.if-word-ne-DIGITS.false
    (sym c.in_err-digit.was ∙ digit_is _ _ c.to_digit.ensures.value ∙ ap hex_digit c.from.ensures)

pub overflow_mul-value : goal.overflow_mul-value
overflow_mul-value c =
    let l = c.loop-i in
    record { fits = let h = hex_fits c.args.word.now l.value l.i l.invariant 0 c.loop-i-test.true (omega arith) in omega (arith, h) }

pub overflow_add-value : goal.overflow_add-value
overflow_add-value c =
    let l = c.loop-i in
    let d = c.in_ok-digit.ensures.value in
    record { fits = hex_fits c.args.word.now l.value l.i l.invariant c.from-in-loop-i.result c.loop-i-test.true (omega (arith, d, c.from-in-loop-i.ensures)) }

pub loop-i-preserved : goal.loop-i-preserved
loop-i-preserved c =
    let l = c.loop-i in
    let d = c.in_ok-digit.ensures.value in
    hex_turn c.args.word.now l.value l.i l.invariant c.from-in-loop-i.result (omega (arith, c.loop-i-test.true, c.if-word-ne-DIGITS.false)) (omega (arith, d, c.from-in-loop-i.ensures))
    (ap Some c.from-in-loop-i.ensures ∙ sym c.in_ok-digit.was ∙ digit_is _ _ c.to_digit.ensures.value ∙ ap hex_digit c.from.ensures)

pub returns : goal.returns
returns c = hex_done c.args.word.now c.loop-i.value c.loop-i.i c.loop-i.invariant c.loop-i-test.false c.if-word-ne-DIGITS.false
