-- What the loop of `lists::words::first_difference` keeps.
use Rattle.std.specs.Prelude.{◌≡◌, ◌-◌}
use Rattle.lists.specs.Words.{first_diff}
use Rattle.lists.proofs.words.first_difference.Given as goal

-- what is left to compare gives the answer
abbrev pub invariant-loop-i : goal.invariant-loop-i
invariant-loop-i l = first_diff l.a l.b 0 l.n ≡ first_diff l.a l.b l.i (l.n - l.i)
