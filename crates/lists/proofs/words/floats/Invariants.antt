-- What the loop of `lists::words::floats` keeps.
use Rattle.std.specs.Prelude.{◌+◌}
use Rattle.numbers.specs.laws.Arr.{FilledTo}
use Rattle.lists.specs.Words.{float_at}
use Rattle.lists.proofs.words.floats.Given as goal

-- the first i floats stand
abbrev pub invariant-loop-i : goal.invariant-loop-i
invariant-loop-i l = FilledTo (λ j. float_at l.bytes (l.k + j)) l.fn.out l.out l.i
