-- What the loop of `oracles::copy::copy_into` keeps: the loop has written the entries below i.
use lib.ListN.{get_or}
use lib.Ieee.{nan}
use Rattle.numbers.specs.laws.Arr.{FilledTo}
use Rattle.oracles.proofs.copy.copy_into.Given as goal

abbrev pub invariant-loop-i : goal.invariant-loop-i
invariant-loop-i l = FilledTo (λ k. get_or l.src k nan) l.initial.out l.out l.i
