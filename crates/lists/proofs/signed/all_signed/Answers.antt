-- `lists::signed::all_signed` meets its contract.
use Rattle.std.proofs.Common.{sym, ap, ◌∙◌, rules}
use Rattle.lists.specs.Signed.{is_signed}
use Rattle.lists.proofs.signed.Laws.{signed_turn, signed_stop, signed_all}
use Rattle.lists.proofs.signed.all_signed.Goals as goal

pub returns-then-not-is_signed : goal.returns-then-not-is_signed
returns-then-not-is_signed c =
    signed_stop c.args.inputs.now c.loop-k.k c.args.to (search rules) (sym (c.is_signed.ensures ∙ ap is_signed c.word.ensures) ∙ c.if-not-is_signed.true) ∙ c.loop-k.invariant

pub loop-k-preserved : goal.loop-k-preserved
loop-k-preserved c =
    signed_turn c.args.inputs.now c.loop-k.k c.args.to (search rules) (sym (c.is_signed.ensures ∙ ap is_signed c.word.ensures) ∙ c.if-not-is_signed.false) ∙ c.loop-k.invariant

pub returns : goal.returns
returns c = signed_all c.args.inputs.now c.loop-k.k c.args.to (search rules) ∙ c.loop-k.invariant
