-- `drivers::answer::read_answer` meets its contract. Assumes nothing.
use Rattle.std.specs.Prelude.{Ok, Err, Result}
use Rattle.std.proofs.lemmas.Result.{err_from_is_err_and}
use Rattle.numbers.specs.declared.refusal.Fault.{Fault}
use Rattle.numbers.specs.Refusal.{At, Sound, Tests}
use mathlib.Core.Path.{◌≡◌, refl, sym, ap, ◌∙◌}
use mathlib.Core.List.{List}
use Prim.Native.Nat.{ℕ}
use lib.ListN.{length}
use lib.Ieee.{Float}
use Rattle.numbers.specs.laws.Arr.{dimension_most}
use Rattle.numbers.specs.declared.refusal.Refusal.{Refusal}
use Rattle.numbers.specs.laws.Refusal.{refuses, accepts}
use Rattle.drivers.specs.Record.{fronted}
use Rattle.drivers.specs.Answer.{answer_at, point_at, answer_walk, read_answer_answer, read_answer_tests}
use Rattle.drivers.specs.laws.Answer.{AnswerSound, answer_sound}
use Rattle.drivers.specs.declared.answer.Answer.{Answer}
use Rattle.drivers.proofs.answer.read_answer.Goals as goal

-- the tests found f, and without a fault the places are the walk's
module _ (n : ℕ) (bytes : List ℕ) (point : List Float) (f : Tests) (e : f ≡ read_answer_tests n bytes (length point)) where
  refused : (why : Refusal) (place : ℕ) → f ≡ At why place → (At why place, point) ≡ read_answer_answer n bytes point
  unfolding read_answer_answer
  refused why place v = refuses _ _ _ (sym v ∙ e) refl

  module _ (v : f ≡ Sound) (places : List ℕ) (p : f ≡ Sound → places ≡ (answer_walk bytes).1) where
    read : (a : Answer) (out : List Float) → a ≡ answer_at bytes places → out ≡ fronted (point_at n bytes places) point → (Ok a, out) ≡ read_answer_answer n bytes point
    unfolding read_answer_answer
    read a out q r = accepts _ _ _ (sym v ∙ e) (rw (q, r, p v))

    sound : AnswerSound n places (length point)
    sound = rw (p v) (answer_sound n bytes (length point) (sym e ∙ v))

pub fill_answer-requires : goal.fill_answer-requires
fill_answer-requires c =
    let a = c.args in
    let f = c.answer_fault.ensures in
    let q = sound a.n a.bytes.now a.point.now _ f.value c.in_ok-answer_fault.was _ f.places_after in
    (dimension_most a.n q.dimension, q.has_room)

pub returns-in_err-answer_fault : goal.returns-in_err-answer_fault
returns-in_err-answer_fault c =
    let a = c.args in
    let w = err_from_is_err_and c.from_residual.result c.from_residual.ensures.1 in
    ap (λ (r : Result Answer Fault). (r, a.point.now)) (w.1 ∙ ap Err w.2)
    ∙ refused a.n a.bytes.now a.point.now _ c.answer_fault.ensures.value _ _ c.in_err-answer_fault.was

pub returns : goal.returns
returns c =
    let a = c.args in
    let f = c.answer_fault.ensures in
    let r = c.fill_answer.ensures in
    read a.n a.bytes.now a.point.now _ f.value c.in_ok-answer_fault.was _ f.places_after _ _ r.value r.point_after
