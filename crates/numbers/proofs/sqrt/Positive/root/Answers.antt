-- `numbers::sqrt::Positive::root` meets its contract. Assumes nothing.
use native.Mathlib.Omega.{arith}
use Rattle.numbers.proofs.sqrt.Patterns.{root_bits, root_small, no_nan}
use borrow.Author.Rules.{rules}
use Rattle.numbers.proofs.sqrt.Positive.root.Goals as goal

pub overflow_add-result-2 : goal.overflow_add-result-2
overflow_add-result-2 c = let l = root_small _ _ _ _ c.square-s.ensures c.root_digits-a.ensures in search rules

pub float_from_bits-result : goal.float_from_bits-result
float_from_bits-result c =
    let l = root_small _ _ _ _ c.square-s.ensures c.root_digits-a.ensures in
    no_nan _ (omega arith)

pub returns : goal.returns
returns c = root_bits _ _ _ _ c.square-s.ensures c.root_digits-a.ensures
