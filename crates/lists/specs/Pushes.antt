-- An answer's words, one after the other: the next place, and the bytes. Definitions only.
use Rattle.std.specs.Prelude.{ℕ, zero, suc, ◌+◌, ◌%◌, ◌^◌, Bool, List, length, slice_index, Float, Result, Ok, Err}
use Rattle.numbers.specs.Pick.{pick}
use Rattle.numbers.specs.Refusal.{number_of}
use Rattle.numbers.specs.declared.refusal.Refusal.{Refusal}
use Rattle.lists.specs.Words.{put_word_at, floats_put}
use Rattle.lists.specs.declared.tally.Unreplayed.{Unreplayed}
use Rattle.lists.specs.declared.tally.Unreplayed.TheVariants.{Refused}

-- a word at place k; a place is a number of 64 bits
abbrev pub pushed : ℕ → ℕ → List ℕ → ℕ × List ℕ
pushed w k got = ((k + 1) % 2 ^ 64, put_word_at got k w)

-- so many of the words, from word i on
unfoldable pub words_pushed : List ℕ → ℕ → ℕ → ℕ → List ℕ → ℕ × List ℕ
words_pushed words i zero k got = (k, got)
words_pushed words i (suc n) k got = let p = pushed (slice_index words i) k got in words_pushed words (i + 1) n p.0 p.1

-- all of the floats, if they all fit
abbrev pub floats_pushed : List Float → ℕ → List ℕ → ℕ × List ℕ
floats_pushed xs k got = ((k + length xs) % 2 ^ 64, floats_put got k xs)

-- a refusal, as what came of a case
abbrev pub plainly : {T : Type 0} → Result T Refusal → Result (Unit {0}) Unreplayed
plainly (Ok x) = Ok tt
plainly (Err why) = Err (Refused why)

-- where an operation has any lengths its answer begins with the refusal's number, or 0; else a refusal has no words
abbrev pub refused : {T : Type 0} → Bool → Result T Refusal → Result (Unit {0}) Unreplayed
refused any answer = pick any (Ok tt) (plainly answer)

abbrev pub number_pushed : {T : Type 0} → Bool → Result T Refusal → ℕ → List ℕ → ℕ × List ℕ
number_pushed any answer k got = pick any (pushed (number_of answer) k got) (k, got)
