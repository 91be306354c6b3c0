-- Text: numbers as digits, and pieces written one after the other. Definitions only.
use Rattle.std.specs.Prelude.{ℕ, zero, suc, ◌+◌, ◌/◌, ◌%◌, List, [], ◌∷◌, ◌++◌, ltb}
use Prim.Native.Char.{code}
use Prim.Native.String.{String, [] as no_more, ◌∷◌ as ◌and_then◌}
use Rattle.numbers.specs.Pick.{pick}

-- the bytes of a text of ASCII characters
abbrev pub bytes_of : String → List ℕ
bytes_of no_more = []
bytes_of (c and_then s) = code c ∷ bytes_of s

-- pieces as one text
unfoldable pub joined : List (List ℕ) → List ℕ
joined [] = []
joined (text ∷ texts) = text ++ joined texts

-- a digit: 0 to 9, A to F
unfoldable pub digit_char : ℕ → ℕ
digit_char d = pick (ltb d 10) (48 + d) (55 + d)

-- the lowest digits of w, so many of them, the highest first
unfoldable pub digits_of : ℕ → ℕ → ℕ → List ℕ
unfolding digit_char
digits_of base zero w = []
digits_of base (suc count) w = digits_of base count (w / base) ++ (digit_char (w % base) ∷ [])

-- how many decimal digits w has, of which at most `most` stand before the last
unfoldable pub digit_count_to : ℕ → ℕ → ℕ
digit_count_to zero w = 1
digit_count_to (suc most) w = pick (ltb w 10) 1 (suc (digit_count_to most (w / 10)))

-- a number of 64 bits has at most 20
unfoldable pub digit_count : ℕ → ℕ
unfolding digit_count_to
digit_count w = digit_count_to 19 w

-- in decimal, and as 16 upper-case hexadecimal digits
unfoldable pub decimal : ℕ → List ℕ
unfolding digits_of digit_count
decimal w = digits_of 10 (digit_count w) w

unfoldable pub hex : ℕ → List ℕ
unfolding digits_of
hex w = digits_of 16 16 w
