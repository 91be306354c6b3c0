-- What the loop of `numbers::arr::diagonal_into` keeps: the entries (k, k) with k below i are set.
use mathlib.Core.Path.{◌≡◌}
use lib.ListN.{length}
use Rattle.numbers.specs.Arr.{set_diag}
use Rattle.numbers.proofs.arr.diagonal_into.Given as goal

abbrev pub invariant-loop-i : goal.invariant-loop-i
invariant-loop-i l = (length l.out ≡ length l.initial.out) × (l.out ≡ set_diag l.n l.v l.i l.initial.out)
