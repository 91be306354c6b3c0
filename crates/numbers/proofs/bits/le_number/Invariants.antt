-- What the loop of `numbers::bits::le_number` keeps: w is the number of the bytes passed, from the last one down.
use Rattle.numbers.proofs.bits.Laws.{Read}
use Rattle.numbers.proofs.bits.le_number.Given as goal

abbrev pub invariant-loop-i : goal.invariant-loop-i
invariant-loop-i l = Read l.bytes l.w l.i
