-- `drivers::text::Writer::put_decimal` meets its contract. Assumes nothing.
use mathlib.Core.Path.{ap}
use native.Mathlib.Omega.{arith}
use Rattle.drivers.specs.Text.{digits_of, decimal}
use Rattle.drivers.specs.laws.Writer.{puts_word}
use Rattle.drivers.proofs.text.Writer.put_decimal.Goals as goal

pub put_digits-requires : goal.put_digits-requires
put_digits-requires c = (omega arith, omega arith)

pub returns : goal.returns
unfolding decimal
returns c = puts_word c.put_digits.ensures (ap (λ n. digits_of 10 n c.args.w) c.digit_count.ensures)
