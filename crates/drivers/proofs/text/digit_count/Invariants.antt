-- What the loop of `drivers::text::digit_count` keeps: the digits counted, and those that rest has, are those of w.
use Prim.Native.Nat.{◌-◌}
use Rattle.drivers.proofs.text.Turns.{Counted}
use Rattle.drivers.proofs.text.digit_count.Given as goal

abbrev pub invariant-loop-rest : goal.invariant-loop-rest
invariant-loop-rest l = Counted l.w l.rest l.count

abbrev pub decreases-loop-rest : goal.decreases-loop-rest
decreases-loop-rest l = 20 - l.count
