-- What the loop of `oracles::ldlt_mgr::witness_into` keeps: the entries from i on are written.
use Prim.Native.Nat.{◌≤◌}
use Rattle.oracles.proofs.ldlt_mgr.WitnessLaws.{WitnessTo}
use Rattle.oracles.proofs.ldlt_mgr.witness_into.Given as goal

abbrev pub invariant-loop-i : goal.invariant-loop-i
invariant-loop-i l = (l.start ≤ l.i) × WitnessTo l.storage.n l.storage.entries.now l.end l.initial.wit l.wit l.i
