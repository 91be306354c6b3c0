-- `drivers::text::Writer::put_hex` meets its contract. Assumes nothing.
use native.Mathlib.Omega.{arith}
use Rattle.drivers.specs.Text.{hex}
use Rattle.drivers.proofs.text.Writer.put_hex.Goals as goal

pub put_digits-requires : goal.put_digits-requires
put_digits-requires c = (omega arith, omega arith)

pub returns : goal.returns
unfolding hex
returns c = c.put_digits.ensures
