-- Document 01's number of each refusal, and which of several counts ("When a call says no"). Definitions only.
use Rattle.std.specs.Prelude.{ℕ, Bool, Result, Ok, Err, is_err, ⊤}
use Rattle.numbers.specs.Pick.{pick}
use Rattle.numbers.specs.declared.refusal.Refusal.{Refusal}
use Rattle.numbers.specs.declared.refusal.Refusal.TheVariants.{Dimension, Length, Band, Cursor, Position, NoStopValue, CutShort, ForeignTag, RepeatedTag, MissingTag, Room, Outcome}
use Rattle.numbers.specs.declared.refusal.Fault.{Fault}

abbrev pub refusal_number : Refusal → ℕ
refusal_number Dimension = 1
refusal_number Length = 2
refusal_number Band = 3
refusal_number Cursor = 4
refusal_number Position = 5
refusal_number NoStopValue = 6
refusal_number CutShort = 7
refusal_number ForeignTag = 8
refusal_number RepeatedTag = 9
refusal_number MissingTag = 10
refusal_number Room = 11
refusal_number Outcome = 12

-- of an answer: 0, or the refusal's
abbrev pub number_of : {A : Type 0} → Result A Refusal → ℕ
number_of (Ok x) = 0
number_of (Err why) = refusal_number why

-- of one that says a place of a record, too
abbrev pub number_at : {A : Type 0} → Result A Fault → ℕ
number_at (Ok x) = 0
number_at (Err fault) = refusal_number fault.why

-- ---- the first refusal counts

-- what tests find: nothing, or the first refusal and its place in a record, 0 outside of one
abbrev pub Tests : Type 0
Tests = Result ⊤ Fault

pattern abbrev pub Sound : Tests
Sound = Ok tt

-- a refusal at a place
abbrev pub At : {A : Type 0} → Refusal → ℕ → Result A Fault
At why place = Err (record { why = why; place = place })

infixr 20 ◌⨾◌
abbrev pub ◌⨾◌ : Tests → Tests → Tests
a ⨾ b = pick (is_err a) a b

-- what is made of a refusal, or of no fault
abbrev pub unless {ℓ} : {X : Type ℓ} → Tests → (Refusal → ℕ → X) → X → X
unless Sound refused done = done
unless (Err fault) refused done = refused fault.why fault.place

-- its number, and 0 where there is none
abbrev pub fault_number : Tests → ℕ
fault_number f = unless f (λ why place. refusal_number why) 0

-- a test: the refusal where it fails, at a place of the record; outside of a record the place is 0
abbrev pub ask_at : ℕ → Bool → Refusal → Tests
ask_at place test why = pick test Sound (At why place)

abbrev pub ask : Bool → Refusal → Tests
ask = ask_at 0

-- the same where there is no record: the refusal alone
abbrev pub asked : Bool → Refusal → Result ⊤ Refusal
asked test why = pick test (Ok tt) (Err why)
