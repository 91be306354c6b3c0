-- `drivers::answer::write_answer` meets its contract. Assumes nothing.
use native.Mathlib.Omega.{arith}
use Rattle.numbers.specs.laws.Arr.{dimension_most}
use Rattle.numbers.specs.laws.Refusal.{asked_ok, asked_err, gone}
use Rattle.numbers.specs.declared.refusal.Refusal.{Refusal}
use Rattle.std.specs.Prelude.{ℕ, Result}
use borrow.Author.Tests.{eqb-true, eqb-false, leb-true, leb-false}
use Rattle.drivers.proofs.answer.Writes.{wrong_n, wrong_point, no_room, written}
use Rattle.std.proofs.Math.Path.{ap}
use Rattle.std.proofs.Common.{◌∙◌}
use Rattle.drivers.proofs.answer.write_answer.Goals as goal

pub returns-in_err-ask : goal.returns-in_err-ask
returns-in_err-ask c =
    let q = asked_err _ _ c.ask.ensures.value c.in_err-ask.was in
    ap (λ (r : Result ℕ Refusal). (r, c.args.out.now)) (gone c.from_residual-in_err-ask.ensures.1 q.1)
    ∙ no_room _ _ _ _ (asked_ok _ _ c.dimension.ensures.value c.in_ok-dimension.was) (eqb-true _ _ (asked_ok _ _ c.lengths.ensures.value c.in_ok-lengths.was)) _ c.answer_size.ensures (leb-false _ _ q.0)

pub put_answer-requires : goal.put_answer-requires
put_answer-requires c =
    omega (arith, (eqb-true _ _ (asked_ok _ _ c.lengths.ensures.value c.in_ok-lengths.was)), dimension_most c.args.n (asked_ok _ _ c.dimension.ensures.value c.in_ok-dimension.was))

pub returns : goal.returns
returns c =
    written _ _ _ _ (asked_ok _ _ c.dimension.ensures.value c.in_ok-dimension.was) (eqb-true _ _ (asked_ok _ _ c.lengths.ensures.value c.in_ok-lengths.was)) _ c.answer_size.ensures _ (leb-true _ _ (asked_ok _ _ c.ask.ensures.value c.in_ok-ask.was)) c.put_answer.ensures

pub returns-in_err-dimension : goal.returns-in_err-dimension
returns-in_err-dimension c =
    let q = asked_err _ _ c.dimension.ensures.value c.in_err-dimension.was in
    ap (λ (r : Result ℕ Refusal). (r, c.args.out.now)) (gone c.from_residual.ensures.1 q.1) ∙ wrong_n _ _ _ _ q.0

pub returns-in_err-lengths : goal.returns-in_err-lengths
returns-in_err-lengths c =
    let q = asked_err _ _ c.lengths.ensures.value c.in_err-lengths.was in
    ap (λ (r : Result ℕ Refusal). (r, c.args.out.now)) (gone c.from_residual-in_err-lengths.ensures.1 q.1) ∙ wrong_point _ _ _ _ (asked_ok _ _ c.dimension.ensures.value c.in_ok-dimension.was) (eqb-false _ _ q.0)

pub answer_size-requires : goal.answer_size-requires
answer_size-requires c = dimension_most _ (asked_ok _ _ c.dimension.ensures.value c.in_ok-dimension.was)
