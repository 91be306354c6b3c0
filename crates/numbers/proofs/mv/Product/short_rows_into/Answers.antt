-- `numbers::mv::Product::short_rows_into` meets its contract. Assumes nothing.
use Rattle.std.proofs.Common.{arith, length-set}
use Rattle.numbers.proofs.arr.Laws.{short_all_two, short_all_three}
use Rattle.numbers.proofs.mv.Product.short_rows_into.Goals as goal

pub returns-then-self-eq3 : goal.returns-then-self-eq3
returns-then-self-eq3 c =
    let p = c.args.self in
    short_all_three p.n p.mat.now p.x.now c.args.out.now c.requires.1 c.short_row.ensures c.short_row-2.ensures c.if-self-eq3.true c.short_row-then-self-eq3.ensures

pub returns-else-self-eq3 : goal.returns-else-self-eq3
returns-else-self-eq3 c =
    let p = c.args.self in
    short_all_two p.n p.mat.now p.x.now c.args.out.now c.requires.1 c.short_row.ensures c.short_row-2.ensures p.large c.requires.0 c.if-self-eq3.false

pub bounds-out-2 : goal.bounds-out-2
bounds-out-2 c = simp length-set (omega arith)
