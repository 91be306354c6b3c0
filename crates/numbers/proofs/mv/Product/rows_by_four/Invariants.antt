-- What the loop of `numbers::mv::rows_by_four` keeps: the loop has written the elements below 4 × k, each from its row.
use Prim.Native.Nat.{◌*◌}
use Rattle.numbers.specs.F64.{0ᶠ}
use Rattle.numbers.specs.Arr.{dot_from, row_of}
use Rattle.numbers.specs.laws.Arr.{FilledTo}
use Rattle.numbers.proofs.mv.Product.rows_by_four.Given as goal

abbrev pub invariant-loop-k : goal.invariant-loop-k
invariant-loop-k l = FilledTo (λ k. dot_from 0ᶠ (row_of l.self.n l.self.mat.now k) l.self.x.now) l.initial.out l.out (4 * l.k)
