-- `drivers::text::Writer::put_last` meets its contract. Assumes nothing.
use Rattle.drivers.specs.laws.Writer.{puts_on, puts_outcome}
use Rattle.drivers.proofs.text.Writer.put_last.Goals as goal

pub returns : goal.returns
returns c = puts_on (puts_on (puts_outcome c.args.answer.found c.put_either.ensures) c.put_decimal.ensures) c.put_text.ensures
