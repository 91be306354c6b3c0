-- What the loop of `numbers::arr::add_products` keeps: what is left to add, begun at the sum so far, gives the answer.
use mathlib.Core.Path.{◌≡◌}
use Prim.Native.Nat.{◌+◌, ◌*◌}
use lib.ListN.{drop}
use Rattle.numbers.specs.Arr.{dot_from}
use Rattle.numbers.proofs.arr.add_products.Given as goal

abbrev pub invariant-loop-k : goal.invariant-loop-k
invariant-loop-k l = dot_from l.s (drop (l.from + 2 * l.k) l.a) (drop (l.from + 2 * l.k) l.b) ≡ dot_from l.initial.s (drop l.from l.a) (drop l.from l.b)
