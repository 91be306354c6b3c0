-- A float as its 64 bits, and words in bytes, the lowest byte first. Definitions only.
use Rattle.std.specs.Prelude.{ℕ, zero, suc, ◌+◌, ◌*◌, ◌/◌, ◌%◌, List, [], ◌∷◌, leb, length, take, drop, Float}
use Rattle.std.specs.Float.{binary64}
use Rattle.std.specs.Float.Ieee.{of_bits, to_bits}
use Rattle.numbers.specs.Pick.{pick}
use Rattle.numbers.specs.Over.{over}

-- the float of a pattern; every NaN's pattern gives NaN
abbrev pub float_of : ℕ → Float
float_of w = of_bits binary64 w

-- the pattern of a float; of NaN 7FF8000000000000
abbrev pub bits_of : Float → ℕ
bits_of x = to_bits binary64 x

-- the number with these digits to the base 256, the lowest first
unfoldable pub le_number : List ℕ → ℕ
le_number [] = 0
le_number (b ∷ bs) = b + 256 * le_number bs

-- the word whose lowest byte stands at `at`; bytes past the end count as 0
unfoldable pub word_at : List ℕ → ℕ → ℕ
unfolding le_number
word_at bytes at = le_number (take 8 (drop at bytes))

-- the k lowest digits of w to the base 256, the lowest first
unfoldable pub le_bytes : ℕ → ℕ → List ℕ
le_bytes zero w = []
le_bytes (suc k) w = w % 256 ∷ le_bytes k (w / 256)

-- the k lowest bytes of w written from `at` on; nothing is written where they do not all fit
unfoldable pub put_bytes : List ℕ → ℕ → ℕ → ℕ → List ℕ
unfolding le_bytes over
put_bytes bytes at k w = pick (leb (at + k) (length bytes)) (over bytes at (le_bytes k w)) bytes

-- a word's eight bytes
abbrev pub put_word : List ℕ → ℕ → ℕ → List ℕ
put_word bytes at w = put_bytes bytes at 8 w
