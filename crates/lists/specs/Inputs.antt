-- The slices of a case, and the tests of its inputs. Definitions only.
use Rattle.std.specs.Prelude.{ℕ, ◌+◌, ◌%◌, ◌^◌, ◌==◌, Bool, true, false, List, Float, Option, Some, None, Result, Ok, Err}
use Rattle.numbers.specs.Pick.{pick}
use Rattle.numbers.specs.declared.cut.CutChoice.{CutChoice}
use Rattle.numbers.specs.declared.cut.CutChoice.TheVariants.{Single, Parallel}
use Rattle.lists.specs.Words.{word_of, float_at}
use Rattle.lists.specs.Rooms.{plus_of}
use Rattle.lists.specs.declared.inputs.Span.{Span}
use Rattle.lists.specs.declared.tally.Unreplayed.{Unreplayed}
use Rattle.lists.specs.declared.tally.Unreplayed.TheVariants.{Unfit}

-- so many words, after the slice
abbrev pub after : Span → ℕ → Span
after s len = record { at = plus_of s.at s.len; len = len }

-- inputs that do not pass a test are unfit
abbrev pub fitting : Bool → Result (Unit {0}) Unreplayed
fitting true = Ok tt
fitting false = Err Unfit

-- a float, unless its word is all ones
unfoldable pub optional_at : List ℕ → ℕ → Option Float
optional_at bytes k = pick (word_of bytes k == 0xffff_ffff_ffff_ffff) None (Some (float_at bytes k))

-- the bounds of a cut: one float, and one that may be absent
abbrev pub cut_choice : Float → Option Float → CutChoice
cut_choice beta0 None = Single beta0
cut_choice beta0 (Some beta1) = Parallel beta0 beta1

abbrev pub betas_at : List ℕ → ℕ → CutChoice
betas_at bytes k = cut_choice (float_at bytes k) (optional_at bytes ((k + 1) % 2 ^ 64))
