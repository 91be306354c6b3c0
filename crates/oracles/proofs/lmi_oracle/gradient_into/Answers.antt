-- `oracles::lmi_oracle::gradient_into` meets its contract. Assumes nothing.
use mathlib.Core.Path.{◌∙◌}
use borrow.Author.Rules.{rules}
use lib.ListN.{length}
use Rattle.numbers.specs.laws.Arr.{filled_start, filled_turn, filled_done}
use Rattle.oracles.proofs.lmi_oracle.Laws.{quad_is, gradient_is}
use Rattle.oracles.proofs.lmi_oracle.gradient_into.Goals as goal

pub loop-k-init : goal.loop-k-init
loop-k-init c = filled_start _ _

pub loop-k-preserved : goal.loop-k-preserved
loop-k-preserved c =
    let a = c.args in
    let l = c.loop-k in
    filled_turn _ _ l.grad l.k _ l.invariant (search rules) (quad_is a.lmi.m l.k a.pos a.wit.now a.lmi.mat_f.now c.quad.ensures)

pub returns : goal.returns
returns c =
    let a = c.args in
    let l = c.loop-k in
    filled_done _ _ l.grad l.k l.invariant (search rules) ∙ gradient_is a.lmi.m (length a.lmi.xc.now) a.pos a.wit.now a.lmi.mat_f.now a.grad.now (search rules)
