-- What the loop of `oracles::lmi_oracle::gradient_into` keeps: the loop has written the elements below k.
use Rattle.numbers.specs.F64.{◌⊗◌, 1ᶠ}
use Rattle.numbers.specs.laws.Arr.{FilledTo}
use Rattle.oracles.specs.LdltMgr.{quad_of}
use Rattle.oracles.specs.LmiOracle.{mat_of}
use Rattle.oracles.proofs.lmi_oracle.gradient_into.Given as goal

abbrev pub invariant-loop-k : goal.invariant-loop-k
invariant-loop-k l = FilledTo (λ q. 1ᶠ ⊗ quad_of l.lmi.m l.pos l.wit (mat_of l.lmi.m l.lmi.mat_f.now q)) l.initial.grad l.grad l.k
