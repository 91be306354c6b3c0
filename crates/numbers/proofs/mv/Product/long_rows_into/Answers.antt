-- `numbers::mv::long_rows_into` meets its contract. Assumes nothing.
use Rattle.std.proofs.Common.{rules, ◌∙◌}
use Rattle.numbers.specs.laws.Arr.{filled_turn, filled_done}
use Rattle.numbers.proofs.arr.Laws.{multiplied}
use Rattle.numbers.proofs.mv.Product.long_rows_into.Goals as goal

pub loop-i-preserved : goal.loop-i-preserved
loop-i-preserved c =
    let l = c.loop-i in
    filled_turn _ _ l.out l.i _ l.invariant (search rules) c.one_row.ensures

pub returns : goal.returns
returns c =
    let a = c.args in
    let l = c.loop-i in
    filled_done _ _ l.out l.i l.invariant (search rules) ∙ multiplied a.self.n a.self.mat.now a.self.x.now a.out.now (search rules)
