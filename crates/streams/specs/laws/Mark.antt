-- Laws of Mark. Assumes nothing.
use Rattle.std.specs.Prelude.{ℕ, ◌+◌, ◌<◌, ◌≤◌, ◌≡◌, refl, List, [], ◌∷◌, ◌++◌, length, get_or, drop}
use Rattle.std.proofs.Common.{ap, add-one, drop_of_length-le, drop-cons}
use Rattle.streams.specs.Mark.{digit_on, marked}

-- a turn of the loop: what is left of a text loses its first byte ..
pub marked_turn : (mark : ℕ) (text : List ℕ) (i : ℕ) → i < length text → marked mark (drop i text) ≡ marked (digit_on mark (get_or text i 0)) (drop (i + 1) text)
unfolding marked
marked_turn mark text i h = rw (add-one i) (ap (marked mark) (drop-cons text i 0 h))

-- .. until nothing is left
pub marked_done : (mark : ℕ) (text : List ℕ) (i : ℕ) → length text ≤ i → marked mark (drop i text) ≡ mark
unfolding marked
marked_done mark text i h = ap (marked mark) (drop_of_length-le text h)

-- an empty text changes nothing
pub marked_none : (mark : ℕ) → mark ≡ marked mark []
unfolding marked
marked_none mark = refl

-- one text after another is the two as one
pub marked_append : (mark : ℕ) (a b : List ℕ) → marked (marked mark a) b ≡ marked mark (a ++ b)
unfolding marked
marked_append mark [] b = refl
marked_append mark (byte ∷ a) b = marked_append (digit_on mark byte) a b

-- one byte more is one more digit
pub marked_push : (mark : ℕ) (a : List ℕ) (byte : ℕ) → digit_on (marked mark a) byte ≡ marked mark (a ++ (byte ∷ []))
unfolding marked
marked_push mark a byte = marked_append mark a (byte ∷ [])
