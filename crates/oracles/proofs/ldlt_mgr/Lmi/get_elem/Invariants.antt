-- What the loop of `oracles::ldlt_mgr::Lmi::get_elem` keeps: the matrices below k are subtracted.
use mathlib.Core.Path.{◌≡◌}
use Prim.Native.Nat.{◌+◌, ◌*◌}
use Rattle.numbers.specs.F64.{◌⊖◌, ◌⊗◌}
use Rattle.oracles.specs.Matrix.{nth, at, total}
use Rattle.oracles.proofs.ldlt_mgr.Lmi.get_elem.Given as goal

abbrev pub invariant-loop-k : goal.invariant-loop-k
invariant-loop-k l = (l.s ≡ total ◌⊖◌ (at l.self.m l.self.mat_b.now l.i l.j) (λ q. nth l.self.mat_f.now (q * (l.self.m * l.self.m) + (l.i * l.self.m + l.j)) ⊗ nth l.self.xc.now q) l.k)
