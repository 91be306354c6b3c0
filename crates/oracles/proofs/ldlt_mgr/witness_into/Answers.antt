-- `oracles::ldlt_mgr::witness_into` meets its contract. Assumes nothing.
use Prim.Native.Nat.{suc, ◌-◌}
use mathlib.Core.Path.{◌≡◌}
use native.Mathlib.Omega.{arith}
use borrow.Author.Rules.{rules}
use Rattle.oracles.proofs.ldlt_mgr.WitnessLaws.{witness_start, witness_turn, witness_done}
use Rattle.oracles.proofs.ldlt_mgr.witness_into.Goals as goal

pub loop-i-init : goal.loop-i-init
loop-i-init c = (search rules, witness_start _ _ _ c.args.wit.now (search rules) (search rules))

pub loop-i-preserved : goal.loop-i-preserved
loop-i-preserved c =
    let l = c.loop-i in
    let q : suc (l.i - 1) ≡ l.i = omega arith in
    (search rules, witness_turn _ _ _ _ l.wit (l.i - 1) _ (rw q l.invariant.1) c.column_sum.ensures)

pub returns : goal.returns
returns c =
    let l = c.loop-i in
    witness_done _ _ _ _ _ _ _ l.invariant.0 (search rules) l.invariant.1
