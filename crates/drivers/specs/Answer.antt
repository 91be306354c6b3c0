-- The answer record (document 01, "Job and answer records"): its reader and its writer. Definitions only.
use Rattle.numbers.specs.declared.refusal.Refusal.{Refusal}
use Rattle.numbers.specs.declared.refusal.Fault.{Fault}
use Rattle.std.specs.Prelude.{ℕ, Bool, List, [], ◌∷◌, leb, eqb, length, Float, Err, Ok, Result}
use Rattle.numbers.specs.Pick.{pick}
use Rattle.numbers.specs.Bits.{le_bytes}
use Rattle.numbers.specs.Arr.{is_dimension, sized}
use Rattle.numbers.specs.declared.refusal.Refusal.TheVariants.{Dimension, Room, Outcome}
use Rattle.numbers.specs.Refusal.{◌⨾◌, unless, ask, ask_at, Tests, At}
use Rattle.drivers.specs.Fields.{Field, record_bytes, number_bytes}
use Rattle.drivers.specs.Record.{byte_at, start_of, half_at, numbers_at, fields_of, no_places, place, is_met, record_fault, lengths_fault, fronted}
use Rattle.numbers.specs.Over.{over}
use Rattle.drivers.specs.declared.answer.Answer.{Answer}
use Rattle.drivers.specs.Rules.{outcome_tag, steps_tag, found_tag, outcome_place, steps_place, found_place, answer_form}

-- ---- what a record says; `places` has where the contents begin

-- tag 22 is there
abbrev pub has_point : List ℕ → Bool
has_point places = is_met places found_place

-- the outcome, one byte
abbrev pub outcome_byte : Bool → ℕ
outcome_byte found = pick found 1 0

abbrev pub answer_at : List ℕ → List ℕ → Answer
answer_at bytes places = record { found = has_point places; steps = half_at bytes (place places steps_place) }

-- its point, n numbers where there is one
abbrev pub point_at : ℕ → List ℕ → List ℕ → List Float
point_at n bytes places = pick (has_point places) (numbers_at bytes (place places found_place) n) []

-- ---- the tests

-- the walk over tags 20 to 22, and 10, with the places that it notes
abbrev pub answer_walk : List ℕ → Tests × List ℕ
answer_walk bytes = record_fault bytes answer_form no_places

-- 12, at tag 20: the outcome is that of a point where tag 22 is there
unfoldable pub outcome_fault : List ℕ → List ℕ → Tests
outcome_fault bytes places = ask_at (start_of (place places outcome_place)) (eqb (byte_at bytes (place places outcome_place)) (outcome_byte (has_point places))) Outcome

-- the first fault of a record, in document 01's order: the caller's n, the walk and 10, the lengths, 12
unfoldable pub answer_fault : ℕ → List ℕ → Tests
answer_fault n bytes =
    ask (is_dimension n) Dimension ⨾ (answer_walk bytes).0 ⨾ lengths_fault n bytes (fields_of bytes) ⨾ outcome_fault bytes (answer_walk bytes).1

-- 11, behind them: what the output for a point must hold
abbrev pub point_room : List Float → ℕ → Tests
point_room point room = ask (leb (length point) room) Room

-- ---- the reader

-- what it refuses: the record's fault, then 11
abbrev pub read_answer_tests : ℕ → List ℕ → ℕ → Tests
read_answer_tests n bytes room = answer_fault n bytes ⨾ point_room (point_at n bytes (answer_walk bytes).1) room

-- `read_answer`: the point, if there is one, to the front of `out`
unfoldable pub read_answer_answer : ℕ → List ℕ → List Float → Result Answer Fault × List Float
read_answer_answer n bytes out =
    let places = (answer_walk bytes).1 in
    unless (read_answer_tests n bytes (length out)) (λ why place. (At why place, out)) (Ok (answer_at bytes places), fronted (point_at n bytes places) out)

-- ---- the writer

-- the fields of an answer, their tags rising: the outcome, the steps and, if one was found, the point
abbrev pub outcome_field : Bool → Field
outcome_field found = (outcome_tag, le_bytes 1 (outcome_byte found))

abbrev pub steps_field : ℕ → Field
steps_field steps = (steps_tag, le_bytes 2 steps)

abbrev pub point_field : List Float → Field
point_field point = (found_tag, number_bytes point)

abbrev pub answer_fields : Answer → List Float → List Field
answer_fields a point = outcome_field a.found ∷ steps_field a.steps ∷ pick a.found (point_field point ∷ []) []

abbrev pub answer_bytes : Answer → List Float → List ℕ
answer_bytes a point = record_bytes (answer_fields a point)

-- `write_answer`: refusal 1, then 2 for a point that has not n numbers, then 11
abbrev pub write_answer_tests : ℕ → Answer → List Float → List ℕ → Tests
write_answer_tests n a point out = sized n (eqb (length point) n) ⨾ ask (leb (length (answer_bytes a point)) (length out)) Room

unfoldable pub write_answer_answer : ℕ → Answer → List Float → List ℕ → Result ℕ Refusal × List ℕ
unfolding over
write_answer_answer n a point out =
    let bytes = answer_bytes a point in
    unless (write_answer_tests n a point out) (λ why place. (Err why, out)) (Ok (length bytes), over out 0 bytes)
