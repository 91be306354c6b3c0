-- `numbers::arr::diagonal_into` meets its contract. Assumes nothing.
use Rattle.std.proofs.Common.{refl, rules, ◌∙◌}
use Rattle.numbers.specs.Arr.{set_diag}
use Rattle.numbers.proofs.arr.Laws.{diagonal, diagonal_turn, diagonal_done}
use Rattle.numbers.proofs.arr.diagonal_into.Goals as goal

pub loop-i-init : goal.loop-i-init
unfolding set_diag
loop-i-init c = (refl, refl)

pub loop-i-preserved : goal.loop-i-preserved
loop-i-preserved c =
    let l = c.loop-i in
    (search rules, diagonal_turn c.args.n l.i c.args.v.now _ l.out l.invariant.1)

pub returns : goal.returns
returns c =
    let a = c.args in
    let l = c.loop-i in
    diagonal_done a.n l.i a.v.now _ l.out l.invariant.1 (search rules) (search rules)
    ∙ diagonal a.n a.v.now a.out.now _ (search rules) (c.fill.ensures.after (λ y e. e))
