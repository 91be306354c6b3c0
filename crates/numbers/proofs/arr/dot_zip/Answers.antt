-- `numbers::arr::dot_zip` meets its contract. Assumes nothing.
use Rattle.std.proofs.Common.{◌∙◌, arith}
use Rattle.numbers.proofs.arr.Laws.{none, first_on}
use Rattle.numbers.proofs.arr.dot_zip.Goals as goal

pub returns-then-min-eq0 : goal.returns-then-min-eq0
returns-then-min-eq0 c = none c.args.a.now c.args.b.now (omega (arith, c.if-min-eq0.true))

pub returns : goal.returns
returns c =
    let p = c.if-min-eq0.false in
    c.add_products.ensures ∙ first_on c.args.a.now c.args.b.now (omega (arith, p)) (omega (arith, p))
