-- `oracles::copy::copy_into` meets its contract. Assumes nothing.
use Rattle.std.proofs.Common.{◌∙◌, refl}
use lib.Ieee.{nan}
use lib.Seq.{take_all}
use Rattle.numbers.specs.laws.Arr.{filled_start, filled_turn, filled_done, tab_get_or}
use borrow.Author.Rules.{rules}
use Rattle.oracles.proofs.copy.copy_into.Goals as goal

pub loop-i-init : goal.loop-i-init
loop-i-init c = filled_start _ _

pub loop-i-preserved : goal.loop-i-preserved
loop-i-preserved c =
    let l = c.loop-i in
    filled_turn _ _ l.out l.i _ l.invariant (search rules) refl

pub returns : goal.returns
returns c =
    let l = c.loop-i in
    filled_done _ _ l.out l.i l.invariant (search rules) ∙ tab_get_or c.args.src.now nan _ (search rules) ∙ take_all _ _ (search rules)
