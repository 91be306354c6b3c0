-- What the loop of `numbers::bits::put_bytes` keeps: after i turns the i lowest bytes stand, and rest is what is left of w.
use Rattle.numbers.proofs.bits.Laws.{Low}
use Rattle.numbers.proofs.bits.put_bytes.Given as goal

abbrev pub invariant-loop-i : goal.invariant-loop-i
invariant-loop-i l = Low l.k l.w l.initial.out l.out l.at l.i l.rest
