-- `numbers::mv::Product::four_rows` meets its contract. Assumes nothing.
use Rattle.numbers.proofs.arr.Laws.{four_rows}
use Rattle.numbers.proofs.mv.Product.four_rows.Goals as goal

pub returns : goal.returns
returns c =
    let p = c.args.self in
    four_rows p.n c.args.i p.mat.now p.x.now c.add_four.ensures c.row.ensures.value c.row-2.ensures.value c.row-3.ensures.value c.row-4.ensures.value
