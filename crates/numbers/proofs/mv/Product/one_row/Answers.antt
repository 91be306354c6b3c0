-- `numbers::mv::Product::one_row` meets its contract. Assumes nothing.
use Rattle.std.proofs.Common.{ap, ◌∙◌, List}
use Rattle.std.specs.Prelude.{Float}
use Rattle.numbers.specs.F64.{0ᶠ}
use Rattle.numbers.specs.Arr.{dot_from}
use Rattle.numbers.proofs.mv.Product.one_row.Goals as goal

pub returns : goal.returns
returns c = c.add_products.ensures ∙ ap (λ (l : List Float). dot_from 0ᶠ l c.args.self.x.now) c.row.ensures.value
