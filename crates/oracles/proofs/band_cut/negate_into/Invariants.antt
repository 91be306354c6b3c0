-- What the loop of `oracles::band_cut::negate_into` keeps: the loop has written the entries below i.
use lib.ListN.{get_or}
use lib.Ieee.{nan, neg}
use Rattle.numbers.specs.laws.Arr.{FilledTo}
use Rattle.oracles.proofs.band_cut.negate_into.Given as goal

abbrev pub invariant-loop-i : goal.invariant-loop-i
invariant-loop-i l = FilledTo (λ k. neg (get_or l.row k nan)) l.initial.grad l.grad l.i
