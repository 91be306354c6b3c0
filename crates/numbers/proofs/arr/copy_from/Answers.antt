-- `numbers::arr::copy_from` meets its contract. Assumes nothing.
use Rattle.std.proofs.Common.{refl, ap, ◌∙◌, List}
use Rattle.std.specs.Prelude.{Ok, Float}
use Rattle.numbers.specs.laws.Refusal.{exits, accepts}
use Rattle.numbers.proofs.arr.Sized.{no_dimension, no_length, all_fit}
use Rattle.numbers.proofs.arr.copy_from.Goals as goal

pub returns-in_err-dimension : goal.returns-in_err-dimension
returns-in_err-dimension c = exits (λ r. (r, c.args.dst.now)) _ _ c.from_residual.ensures.1 (no_dimension _ _ c.dimension.ensures.value c.in_err-dimension.was)

pub returns-in_err-lengths : goal.returns-in_err-lengths
returns-in_err-lengths c =
    exits (λ r. (r, c.args.dst.now)) _ _ c.from_residual-in_err-lengths.ensures.1
    (no_length _ _ c.dimension.ensures.value c.in_ok-dimension.was c.lengths.ensures.value c.in_err-lengths.was)

pub returns : goal.returns
returns c = ap (λ (l : List Float). (Ok tt, l)) c.copy_from_slice.ensures.after ∙ accepts _ _ _ (all_fit _ _ c.dimension.ensures.value c.in_ok-dimension.was c.lengths.ensures.value c.in_ok-lengths.was) refl
