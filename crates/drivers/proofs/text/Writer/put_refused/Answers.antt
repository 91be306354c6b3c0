-- `drivers::text::Writer::put_refused` meets its contract. Assumes nothing.
use mathlib.Core.Path.{ap}
use mathlib.Core.List.{[], ◌∷◌}
use Rattle.drivers.specs.Text.{decimal}
use Rattle.drivers.specs.laws.Writer.{puts_on, puts_same, puts_word}
use Rattle.drivers.proofs.text.Writer.put_refused.Goals as goal

pub returns : goal.returns
returns c =
    puts_on
    (puts_on
    (puts_on (puts_on c.put_text.ensures (puts_same c.put_decimal.ensures (ap (λ w. decimal w ∷ []) c.from.ensures))) c.put_text-2.ensures)
    c.put_decimal-2.ensures)
    (puts_word c.put_text-3.ensures c.source_word.ensures)
