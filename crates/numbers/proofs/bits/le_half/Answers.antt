-- `numbers::bits::le_half` meets its contract.
use native.Mathlib.Omega.{arith}
use Rattle.numbers.proofs.bits.Laws.{half_is}
use Rattle.numbers.proofs.bits.le_half.Goals as goal

pub returns : goal.returns
returns c = (half_is _ _ c.requires (omega arith), omega arith)
