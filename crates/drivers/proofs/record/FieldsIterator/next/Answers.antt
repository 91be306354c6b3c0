-- `drivers::record::Fields::next` meets its contract: the fields that are left lose their first.
use Rattle.std.proofs.Common.{◌≡◌, ◌<◌, ◌∷◌, length, sym, ap, ◌∙◌, arith, rules}
use Rattle.drivers.specs.laws.Record.{fields_after, fields_turn, fields_end}
use Rattle.drivers.proofs.record.FieldsIterator.next.Goals as goal

pub returns-then-self-clause-steps : goal.returns-then-self-clause-steps
returns-then-self-clause-steps c =
    let s = c.args.self.now in
    fields_turn s.bytes.now s.at c.if-self.true ∙ ap (λ n. s.at ∷ fields_after s.bytes.now n) (sym c.next_field-self.ensures)

pub returns-then-self-clause-goes : goal.returns-then-self-clause-goes
returns-then-self-clause-goes c =
    let s = c.args.self.now in
    let e : fields_after s.bytes.now s.at ≡ s.at ∷ fields_after s.bytes.now c.next_field-self.result =
    fields_turn s.bytes.now s.at c.if-self.true ∙ ap (λ n. s.at ∷ fields_after s.bytes.now n) (sym c.next_field-self.ensures) in
    let l : length (fields_after s.bytes.now c.next_field-self.result) < length (fields_after s.bytes.now s.at) = omega (arith, ap length e) in
    search rules

pub returns-clause-steps : goal.returns-clause-steps
returns-clause-steps c =
    let s = c.args.self.now in
    (fields_end s.bytes.now s.at c.if-self.false, fields_end s.bytes.now s.at c.if-self.false)
