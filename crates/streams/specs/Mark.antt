-- The mark of what has been handed over: one number of all its bytes, which contracts can name. Definitions only.
use Rattle.std.specs.Prelude.{ℕ, ◌+◌, ◌*◌, ◌%◌, List, [], ◌∷◌}

-- the digits of a number to the base 256, and one more, modulo the prime 2⁵⁶ − 5
abbrev pub digit_on : ℕ → ℕ → ℕ
digit_on mark byte = mark % 0xff_ffff_ffff_fffb * 256 + byte

-- the bytes of a text after those handed over before
unfoldable pub marked : ℕ → List ℕ → ℕ
marked mark [] = mark
marked mark (byte ∷ text) = marked (digit_on mark byte) text

-- of a text with nothing before it: the first digit is a one, so that zeros after it count too
abbrev pub mark_of : List ℕ → ℕ
mark_of text = marked 1 text
