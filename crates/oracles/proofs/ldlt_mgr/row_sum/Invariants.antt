-- What the loop of `oracles::ldlt_mgr::row_sum` keeps: the columns below k are added.
use mathlib.Core.Path.{◌≡◌}
use Rattle.numbers.specs.F64.{◌⊕◌, ◌⊗◌, 0ᶠ}
use Rattle.oracles.specs.Matrix.{at, total}
use Rattle.oracles.proofs.ldlt_mgr.row_sum.Given as goal

abbrev pub invariant-loop-k : goal.invariant-loop-k
invariant-loop-k l = (l.s ≡ total ◌⊕◌ 0ᶠ (λ q. at l.storage.n l.storage.entries.now l.i q ⊗ at l.storage.n l.storage.entries.now q l.c) l.k)
