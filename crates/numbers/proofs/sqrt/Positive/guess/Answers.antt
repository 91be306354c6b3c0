-- `numbers::sqrt::Positive::guess` is safe; its contract says nothing of the result. Assumes nothing.
use native.Mathlib.Omega.{arith}
use Rattle.numbers.proofs.sqrt.Patterns.{no_nan}
use Rattle.numbers.proofs.sqrt.Positive.guess.Goals as goal

pub float_from_bits-y : goal.float_from_bits-y
float_from_bits-y c = no_nan _ (omega arith)
