-- `drivers::answer::put_answer` meets its contract. Assumes nothing.
use mathlib.Core.List.{map}
use borrow.Author.Tests.{not-true, not-false}
use borrow.Author.Rules.{rules}
use Rattle.drivers.specs.Fields.{field_bytes}
use Rattle.drivers.specs.Answer.{answer_fields}
use Rattle.drivers.specs.laws.Writer.{Puts, puts_on, puts_same}
use Rattle.drivers.proofs.answer.Writes.{none_put, found_put}
use Rattle.drivers.proofs.answer.put_answer.Goals as goal

pub returns-then-not-answer : goal.returns-then-not-answer
returns-then-not-answer c =
    let a = c.args.answer in
    let point = c.args.point.now in
    let all : Puts c.new-record.result c.put_integer_field-2.new.self (map field_bytes (answer_fields a point)) =
    puts_same (puts_on c.put_integer_field.ensures c.put_integer_field-2.ensures) (none_put a point _ c.outcome_byte.ensures (not-true _ c.if-not-answer.true)) in
    search rules

pub returns : goal.returns
returns c =
    let a = c.args.answer in
    let point = c.args.point.now in
    let all : Puts c.new-record.result c.put_numbers_field.new.self (map field_bytes (answer_fields a point)) =
    puts_same (puts_on (puts_on c.put_integer_field.ensures c.put_integer_field-2.ensures) c.put_numbers_field.ensures)
    (found_put a point _ c.outcome_byte.ensures (not-false _ c.if-not-answer.false)) in
    search rules
