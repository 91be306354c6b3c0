-- What the loop of `lists::signed::all_signed` keeps.
use Rattle.std.specs.Prelude.{◌≡◌, ◌-◌}
use Rattle.lists.specs.Signed.{all_signed}
use Rattle.lists.proofs.signed.all_signed.Given as goal

-- what is left of the words computes the answer
abbrev pub invariant-loop-k : goal.invariant-loop-k
invariant-loop-k l = all_signed l.inputs l.k (l.to - l.k) ≡ all_signed l.inputs l.from (l.to - l.from)
