-- `lists::words::floats` meets its contract.
use Rattle.std.proofs.Common.{arith, sym, ◌∙◌}
use Rattle.numbers.specs.laws.Arr.{filled_start, filled_turn, filled_done}
use Rattle.lists.proofs.words.Laws.{floats_out, floats_in}
use Rattle.lists.proofs.words.floats.Goals as goal

pub returns-then-not-holds : goal.returns-then-not-holds
returns-then-not-holds c = floats_out _ _ _ (sym c.holds.ensures ∙ c.if-not-holds.true)

pub loop-i-init : goal.loop-i-init
loop-i-init c = filled_start _ _

pub loop-i-preserved : goal.loop-i-preserved
loop-i-preserved c =
    filled_turn _ _ _ c.loop-i.i c.float.result c.loop-i.invariant (omega (arith, c.loop-i.invariant.long)) c.float.ensures

pub returns : goal.returns
returns c =
    floats_in _ _ _ _ (sym c.holds.ensures ∙ c.if-not-holds.false) (filled_done _ _ _ c.loop-i.i c.loop-i.invariant (omega (arith, c.loop-i.invariant.long)))
