-- What the loop of `numbers::sqrt::normalise` keeps.
use Prim.Native.Nat.{◌-◌, ◌^◌}
use Rattle.numbers.proofs.sqrt.Laws.{Up}
use Rattle.numbers.proofs.sqrt.normalise.Given as goal

abbrev pub invariant-loop-m : goal.invariant-loop-m
invariant-loop-m l = Up l.digits l.m l.shift

abbrev pub decreases-loop-m : goal.decreases-loop-m
decreases-loop-m l = 2 ^ 53 - l.m
