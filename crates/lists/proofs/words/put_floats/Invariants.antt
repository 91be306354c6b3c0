-- What the loop of `lists::words::put_floats` keeps.
use Rattle.std.specs.Prelude.{◌≡◌}
use Rattle.lists.specs.Words.{put_to}
use Rattle.lists.proofs.words.put_floats.Given as goal

-- the first i floats stand
abbrev pub invariant-loop-i : goal.invariant-loop-i
invariant-loop-i l = l.bytes ≡ put_to l.fn.bytes l.k l.xs l.i
