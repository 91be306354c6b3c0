-- The text of a run (document 01, "The program `filterrun`"): a line for each cut, then the answer, or one line that refuses the job. Definitions only.
use Rattle.std.specs.Prelude.{ℕ, Bool, true, false, List, [], ◌∷◌, ◌++◌, length, take, Some, None, Result, Ok, Err}
use Rattle.numbers.specs.Pick.{pick}
use Rattle.numbers.specs.Bits.{bits_of}
use Rattle.numbers.specs.Refusal.{refusal_number, unless, Tests}
use Rattle.numbers.specs.declared.refusal.Refusal.{Refusal}
use Rattle.numbers.specs.declared.cut.CutChoice.{CutChoice}
use Rattle.numbers.specs.declared.cut.CutChoice.TheVariants.{Single, Parallel}
use Rattle.numbers.specs.declared.cut.CutStatus.{CutStatus}
use Rattle.numbers.specs.declared.cut.CutStatus.TheVariants.{Success, NoSoln, NoEffect}
use Rattle.numbers.specs.Over.{over}
use Rattle.oracles.specs.LowpassOracle.{group_side}
use Rattle.oracles.specs.declared.lowpass_oracle.Group.{Group}
use Rattle.oracles.specs.declared.lowpass_oracle.Group.TheVariants.{Pass, Stop, Middle, Sign}
use Rattle.drivers.specs.Text.{bytes_of, joined, decimal, hex}
use Rattle.drivers.specs.declared.answer.Answer.{Answer}
use Rattle.drivers.specs.declared.trace.Source.{Source}
use Rattle.drivers.specs.declared.trace.Source.TheVariants.{Only, Job, Answer as OfAnswer}
use Rattle.drivers.specs.CuttingPlane.{room_test}
use Rattle.drivers.specs.CuttingPlaneFeas.{feas_ended, StepAnswer}

-- ---- a cut's line: step, group, row or -, over or under, beta0, beta1 or -, status. The words stand here with the spaces beside them.

abbrev pub group_word : Group → List ℕ
group_word (Pass row over) = bytes_of " pass "
group_word (Stop row over) = bytes_of " stop "
group_word (Middle row) = bytes_of " middle "
group_word Sign = bytes_of " sign "

abbrev pub row_text : Group → List ℕ
row_text (Pass row over) = decimal row
row_text (Stop row over) = decimal row
row_text (Middle row) = decimal row
row_text Sign = bytes_of "-"

abbrev pub side_word : Bool → List ℕ
side_word true = bytes_of " over "
side_word false = bytes_of " under "

-- the betas as their bits; a NaN as 7FF8000000000000
abbrev pub beta_pieces : CutChoice → List (List ℕ)
beta_pieces (Single beta0) = hex (bits_of beta0) ∷ bytes_of " -" ∷ []
beta_pieces (Parallel beta0 beta1) = hex (bits_of beta0) ∷ bytes_of " " ∷ hex (bits_of beta1) ∷ []

abbrev pub status_word : CutStatus → List ℕ
status_word Success = bytes_of " Success\n"
status_word NoSoln = bytes_of " NoSoln\n"
status_word NoEffect = bytes_of " NoEffect\n"

abbrev pub cut_pieces : ℕ → Group → CutChoice → CutStatus → List (List ℕ)
cut_pieces step group beta status = (decimal step ∷ group_word group ∷ row_text group ∷ side_word (group_side group) ∷ []) ++ beta_pieces beta ++ (status_word status ∷ [])

-- what a step prints of itself: nothing, or its cut
abbrev pub answer_pieces : ℕ → StepAnswer → List (List ℕ)
answer_pieces step (Ok None) = []
answer_pieces step (Ok (Some made)) = cut_pieces step made.cut.group made.cut.beta made.status
answer_pieces step (Err why) = []

-- ---- the last line: `found` or `none`, and the steps

abbrev pub outcome_word : Bool → List ℕ
outcome_word true = bytes_of "found "
outcome_word false = bytes_of "none "

abbrev pub last_pieces : Answer → List (List ℕ)
last_pieces a = outcome_word a.found ∷ decimal a.steps ∷ bytes_of "\n" ∷ []

abbrev pub ended_pieces : Result Answer Refusal → List (List ℕ)
ended_pieces (Ok a) = last_pieces a
ended_pieces (Err why) = []

-- ---- the line of a refusal: `refused`, number, place and, where a command takes two inputs, which of them

abbrev pub source_word : Source → List ℕ
source_word Only = bytes_of "\n"
source_word Job = bytes_of " job\n"
source_word OfAnswer = bytes_of " answer\n"

abbrev pub refused_pieces : Source → Refusal → ℕ → List (List ℕ)
refused_pieces source why place = bytes_of "refused " ∷ decimal (refusal_number why) ∷ bytes_of " " ∷ decimal place ∷ source_word source ∷ []

abbrev pub refused_text : Source → Refusal → ℕ → List ℕ
refused_text source why place = joined (refused_pieces source why place)

-- 11 where `out` has fewer bytes than the longest text may need
abbrev pub room : ℕ
room = 128

abbrev pub text_room : List ℕ → Tests
text_room out = room_test room (length out)

-- how many bytes a text has, or why nothing was written
abbrev pub Text : Type 0
Text = Result ℕ Refusal

-- a text at the front of `out`, and its length
unfoldable pub printed : List ℕ → List ℕ → Text × List ℕ
printed text out = unless (text_room out) (λ why place. (Err why, out)) (Ok (length text), over out 0 text)

-- the text that a call has put at the front of `out`
abbrev pub text_in : Text → List ℕ → List ℕ
text_in (Ok n) out = take n out
text_in (Err why) out = []

-- `refused_line`
abbrev pub refused_line_answer : Source → Refusal → ℕ → List ℕ → Text × List ℕ
refused_line_answer source why place out = printed (refused_text source why place) out

-- the text of a step, and of the run's end where it is the last
unfoldable pub step_text : ℕ → Bool → StepAnswer → List ℕ
step_text k more answer = joined (answer_pieces k answer ++ pick more [] (ended_pieces (feas_ended answer k)))
