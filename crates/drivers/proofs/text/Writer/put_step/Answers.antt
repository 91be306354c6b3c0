-- `drivers::text::Writer::put_step` meets its contract.
use Rattle.drivers.specs.laws.Writer.{puts_none}
use Rattle.drivers.proofs.text.Writer.put_step.Goals as goal

pub returns-in_default : goal.returns-in_default
returns-in_default c = rw c.in_default.is (puts_none _)

pub returns-in_default-made : goal.returns-in_default-made
returns-in_default-made c = rw (c.in-Ok.is, c.in_default-made.is) (puts_none _)
