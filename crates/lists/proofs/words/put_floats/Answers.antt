-- `lists::words::put_floats` meets its contract.
use Rattle.std.proofs.Common.{sym, ◌∙◌, rules}
use Rattle.lists.proofs.words.Laws.{puts_out, puts_in, put_turn, puts_none}
use Rattle.lists.proofs.words.put_floats.Goals as goal

pub returns-then-not-holds : goal.returns-then-not-holds
returns-then-not-holds c = puts_out _ _ _ (sym c.holds.ensures ∙ c.if-not-holds.true)

pub loop-i-init : goal.loop-i-init
loop-i-init c = puts_none _ _ _

pub loop-i-preserved : goal.loop-i-preserved
loop-i-preserved c = put_turn _ _ _ _ _ c.loop-i.i c.to_bits.result c.loop-i.invariant c.to_bits.ensures c.put.ensures

pub returns : goal.returns
returns c = puts_in _ _ _ _ c.loop-i.i (sym c.holds.ensures ∙ c.if-not-holds.false) (search rules) (search rules) c.loop-i.invariant
