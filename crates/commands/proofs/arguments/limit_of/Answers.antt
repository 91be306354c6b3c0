-- `commands::arguments::limit_of` meets its contract.
use Rattle.std.proofs.Common.{◌∙◌, sym, ap, Some, None, Ok, rules}
use Rattle.drivers.specs.Text.{bytes_of}
use Rattle.commands.specs.laws.Arguments.{word_is, own_taken, digits_taken}
use Rattle.commands.proofs.arguments.limit_of.Goals as goal

pub returns-then-eq : goal.returns-then-eq
returns-then-eq c = own_taken c.args.word.now (word_is _ _ (bytes_of "-") _ c.eq.ensures (search rules) ∙ c.if-eq.true)

pub returns-in-Some : goal.returns-in-Some
returns-in-Some c =
    ap (λ x. Ok (Some x)) c.of_bits.ensures
    ∙ digits_taken c.args.word.now (Some c.in-Some.bits) (word_is _ _ (bytes_of "-") _ c.eq.ensures (search rules) ∙ c.if-eq.false) (sym c.in-Some.is ∙ c.hex_value.ensures)

pub returns-in-None : goal.returns-in-None
returns-in-None c =
    digits_taken c.args.word.now None (word_is _ _ (bytes_of "-") _ c.eq.ensures (search rules) ∙ c.if-eq.false) (sym c.in-None.is ∙ c.hex_value.ensures)
