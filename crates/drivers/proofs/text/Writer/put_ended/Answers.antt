-- `drivers::text::Writer::put_ended` meets its contract.
use Rattle.drivers.specs.laws.Writer.{puts_none}
use Rattle.drivers.proofs.text.Writer.put_ended.Goals as goal

pub returns-in_default : goal.returns-in_default
returns-in_default c = rw c.in_default.is (puts_none _)
