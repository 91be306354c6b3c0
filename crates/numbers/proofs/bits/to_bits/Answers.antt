-- `numbers::bits::to_bits` meets its contract.
use mathlib.Core.Path.{refl}
use Rattle.numbers.proofs.bits.Laws.{nan_pattern, no_nan}
use Rattle.numbers.proofs.bits.to_bits.Goals as goal

pub returns-then-x : goal.returns-then-x
returns-then-x c = nan_pattern c.args.x c.if-x.true

pub float_to_bits-result : goal.float_to_bits-result
float_to_bits-result c = no_nan c.args.x c.if-x.false

pub returns : goal.returns
returns c = refl
