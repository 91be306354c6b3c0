-- `numbers::mv::Product::short_row` meets its contract. Assumes nothing.
use Rattle.std.proofs.Common.{rules, ap, ◌∙◌, List}
use Rattle.std.specs.Prelude.{Float}
use Rattle.numbers.specs.F64.{0ᶠ}
use Rattle.numbers.specs.Arr.{dot_from}
use Rattle.numbers.proofs.arr.Laws.{short_two, short_three}
use Rattle.numbers.proofs.mv.Product.short_row.Goals as goal

pub returns-then-self-eq2 : goal.returns-then-self-eq2
returns-then-self-eq2 c =
    short_two c.row-row.result.now c.args.self.x.now (search rules) (search rules) ∙ ap (λ (l : List Float). dot_from 0ᶠ l c.args.self.x.now) c.row-row.ensures.value

pub returns : goal.returns
returns c =
    short_three c.row-row.result.now c.args.self.x.now (search rules) (search rules) ∙ ap (λ (l : List Float). dot_from 0ᶠ l c.args.self.x.now) c.row-row.ensures.value
