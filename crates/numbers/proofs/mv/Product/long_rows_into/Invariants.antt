-- What the loop of `numbers::mv::long_rows_into` keeps: the elements below i are written, each from its row.
use Rattle.numbers.specs.F64.{0ᶠ}
use Rattle.numbers.specs.Arr.{dot_from, row_of}
use Rattle.numbers.specs.laws.Arr.{FilledTo}
use Rattle.numbers.proofs.mv.Product.long_rows_into.Given as goal

abbrev pub invariant-loop-i : goal.invariant-loop-i
invariant-loop-i l = FilledTo (λ k. dot_from 0ᶠ (row_of l.self.n l.self.mat.now k) l.self.x.now) l.fn.out l.out l.i
