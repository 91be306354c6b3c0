-- `drivers::text::Writer::put_cut` meets its contract. Assumes nothing.
use Rattle.drivers.specs.laws.Writer.{puts_on, puts_side, puts_word}
use Rattle.drivers.proofs.text.Writer.put_cut.Goals as goal

pub returns : goal.returns
returns c =
    puts_on
    (puts_on
    (puts_on (puts_on (puts_on c.put_decimal.ensures (puts_word c.put_text.ensures c.group_word.ensures)) c.put_row.ensures) (puts_side _ _ c.put_either.ensures c.is_over.ensures))
    c.put_betas.ensures)
    (puts_word c.put_text-2.ensures c.status_word.ensures)
