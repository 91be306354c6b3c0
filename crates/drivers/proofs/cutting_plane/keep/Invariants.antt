-- What the loop of `drivers::cutting_plane::keep` keeps: the loop has written the numbers below i.
use lib.ListN.{get_or}
use lib.Ieee.{nan}
use Rattle.numbers.specs.laws.Arr.{FilledTo}
use Rattle.drivers.proofs.cutting_plane.keep.Given as goal

abbrev pub invariant-loop-i : goal.invariant-loop-i
invariant-loop-i l = FilledTo (λ k. get_or l.xc k nan) l.initial.x_best l.x_best l.i
