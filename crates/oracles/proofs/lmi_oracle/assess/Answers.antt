-- `oracles::lmi_oracle::assess` meets its contract. Assumes nothing.
use native.Mathlib.Omega.{arith}
use borrow.Author.Rules.{rules}
use lib.ListN.{length}
use Rattle.oracles.specs.LmiOracle.{lmi_buffers}
use Rattle.oracles.proofs.lmi_oracle.Laws.{feasible, stop_in, cuts}
use Rattle.oracles.proofs.lmi_oracle.assess.Goals as goal

pub returns-in_err-pos : goal.returns-in_err-pos
returns-in_err-pos c =
    let a = c.args in
    rw c.from_residual.ensures (feasible _ (length a.lmi.xc.now) _ _ _ (lmi_buffers a.storage.now a.wit.now a.grad.now) _ _ c.factor_rows.ensures c.in_err-pos.was)

pub witness_into-requires : goal.witness_into-requires
witness_into-requires c =
    let a = c.args in
    let s = stop_in _ (length a.lmi.xc.now) _ _ _ (lmi_buffers a.storage.now a.wit.now a.grad.now) _ _ c.factor_rows.ensures _ c.in_ok-pos.was in
    (s.0, s.1, search rules)

pub gradient_into-requires : goal.gradient_into-requires
gradient_into-requires c =
    let a = c.args in
    let s = stop_in _ (length a.lmi.xc.now) _ _ _ (lmi_buffers a.storage.now a.wit.now a.grad.now) _ _ c.factor_rows.ensures _ c.in_ok-pos.was in
    (omega arith, s.1, search rules, search rules)

pub overflow_sub-last : goal.overflow_sub-last
overflow_sub-last c =
    let a = c.args in
    let s = stop_in _ (length a.lmi.xc.now) _ _ _ (lmi_buffers a.storage.now a.wit.now a.grad.now) _ _ c.factor_rows.ensures _ c.in_ok-pos.was in
    omega arith

pub at-requires : goal.at-requires
at-requires c =
    let a = c.args in
    let s = stop_in _ (length a.lmi.xc.now) _ _ _ (lmi_buffers a.storage.now a.wit.now a.grad.now) _ _ c.factor_rows.ensures _ c.in_ok-pos.was in
    (omega arith, omega arith)

pub returns : goal.returns
returns c =
    let a = c.args in
    cuts _ (length a.lmi.xc.now) _ _ _ _ _ _ c.factor_rows.ensures _ c.in_ok-pos.was _ _ _ c.witness_into.ensures c.gradient_into.ensures c.at.ensures
