-- `drivers::input::take_answer` meets its contract. Assumes nothing.
use Rattle.numbers.specs.declared.refusal.Fault.{Fault}
use Rattle.drivers.specs.declared.answer.Answer.{Answer}
use Rattle.std.specs.Prelude.{Result}
use Prim.Native.Nat.{ℕ}
use mathlib.Core.Path.{◌≡◌, sym, ap, ◌∙◌}
use mathlib.Core.List.{List}
use borrow.Author.Tests.{le-leb, lt-leb}
use lib.ListN.{length}
use lib.Ieee.{Float}
use Rattle.numbers.specs.laws.Refusal.{failed, held, at_first, refuses}
use Rattle.drivers.specs.Input.{answer_refused, take_answer_answer}
use Rattle.drivers.specs.laws.Input.{answer_taken, take_answer_is}
use Rattle.drivers.proofs.input.take_answer.Goals as goal

-- what is taken by what was read
from_read : (out : List ℕ) (point : List Float) (r s : (Result Answer Fault)) (q : Result Answer Fault × List Float) → r ≡ s → (r, point) ≡ q → answer_taken out (s, point) ≡ answer_taken out q
from_read out point r s q e f = ap (λ (z : (Result Answer Fault)). answer_taken out (z, point)) (sym e) ∙ ap (answer_taken out) f

pub returns-then-bytes-gt-LONGEST : goal.returns-then-bytes-gt-LONGEST
unfolding take_answer_answer
returns-then-bytes-gt-LONGEST c =
    let a = c.args in
    refuses _ _ _ (at_first _ (failed (lt-leb (length a.bytes.now) 65536 c.if-bytes-gt-LONGEST.true)))
    (ap (answer_refused a.point.now) c.refused_line.ensures)

pub returns-in-Ok : goal.returns-in-Ok
returns-in-Ok c =
    let a = c.args in
    from_read a.out.now _ _ _ _ c.in-Ok.is c.read_answer-read.ensures
    ∙ take_answer_is a.n _ _ a.out.now (held _ _ (le-leb (length a.bytes.now) 65536 c.if-bytes-gt-LONGEST.false))

pub returns-in-Err : goal.returns-in-Err
returns-in-Err c =
    let a = c.args in
    ap (answer_refused _) c.refused_line-in-Err.ensures
    ∙ from_read a.out.now _ _ _ _ c.in-Err.is c.read_answer-read.ensures
    ∙ take_answer_is a.n _ _ a.out.now (held _ _ (le-leb (length a.bytes.now) 65536 c.if-bytes-gt-LONGEST.false))
