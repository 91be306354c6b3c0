-- What the loop of `numbers::arr::add_four` keeps: of each row, what is left to add, begun at the sum so far, gives the answer.
use mathlib.Core.Path.{◌≡◌}
use lib.ListN.{drop}
use Rattle.numbers.specs.Arr.{dot_from}
use Rattle.numbers.proofs.arr.add_four.Given as goal

abbrev pub invariant-loop-j : goal.invariant-loop-j
invariant-loop-j l =
    (dot_from l.s (drop l.j l.a) (drop l.j l.x) ≡ dot_from l.initial.s (drop l.from l.a) (drop l.from l.x)) × (dot_from l.t (drop l.j l.b) (drop l.j l.x) ≡ dot_from l.initial.t (drop l.from l.b) (drop l.from l.x))
    × (dot_from l.u (drop l.j l.c) (drop l.j l.x) ≡ dot_from l.initial.u (drop l.from l.c) (drop l.from l.x)) × (dot_from l.v (drop l.j l.d) (drop l.j l.x) ≡ dot_from l.initial.v (drop l.from l.d) (drop l.from l.x))
