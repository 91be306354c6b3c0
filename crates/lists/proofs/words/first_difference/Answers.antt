-- `lists::words::first_difference` meets its contract.
use Rattle.std.proofs.Common.{sym, ◌∙◌, rules}
use Rattle.lists.proofs.words.Laws.{diff_here, diff_turn, diff_end}
use Rattle.lists.proofs.words.first_difference.Goals as goal

pub returns-then-word : goal.returns-then-word
returns-then-word c =
    sym (c.loop-i.invariant ∙ diff_here c.args.a.now c.args.b.now c.loop-i.i c.args.n (search rules) (λ e. c.if-word.true (c.word.ensures ∙ e ∙ sym c.word-in-loop-i.ensures)))

pub loop-i-preserved : goal.loop-i-preserved
loop-i-preserved c =
    c.loop-i.invariant ∙ diff_turn c.args.a.now c.args.b.now c.loop-i.i c.args.n (search rules) (sym c.word.ensures ∙ c.if-word.false ∙ c.word-in-loop-i.ensures)

pub returns : goal.returns
returns c = sym (c.loop-i.invariant ∙ diff_end c.args.a.now c.args.b.now c.loop-i.i c.args.n (search rules))
