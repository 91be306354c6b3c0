-- What the loop of `oracles::ell_factors::backward` keeps: the entries from i on are solved.
use mathlib.Core.Path.{◌≡◌}
use mathlib.Core.List.{◌++◌}
use Prim.Native.Nat.{◌-◌}
use lib.ListN.{length, take}
use Rattle.oracles.specs.EllStable.{backward}
use Rattle.oracles.proofs.ell_factors.backward.Given as goal

abbrev pub invariant-loop-i : goal.invariant-loop-i
invariant-loop-i l = (length l.q ≡ l.mq.n) × (l.q ≡ take l.i l.initial.q ++ backward l.mq.n l.mq.entries.now l.initial.q (l.mq.n - l.i))
