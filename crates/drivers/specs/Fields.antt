-- Records as they are written: fields one after the other, each with its tag, the length of its content, and the content. Definitions only.
use Rattle.std.specs.Prelude.{ℕ, ◌+◌, ◌-◌, ◌*◌, List, ◌++◌, map, length, ℤ, pos, nat_abs, Float}
use Rattle.std.specs.Int.Signed.{lt_z}
use Rattle.numbers.specs.Pick.{pick}
use Rattle.numbers.specs.Bits.{bits_of, le_bytes}
use Rattle.drivers.specs.Text.{joined}

-- a field: its tag and the bytes of its content
abbrev pub Field : Type 0
Field = ℕ × List ℕ

-- its header: a byte for the tag and two for the length of the content, the lowest first
abbrev pub header : ℕ → ℕ → List ℕ
header tag size = le_bytes 3 (tag + 256 * size)

abbrev pub field_bytes : Field → List ℕ
field_bytes f = header f.0 (length f.1) ++ f.1

-- the record of some fields
abbrev pub record_bytes : List Field → List ℕ
record_bytes fs = joined (map field_bytes fs)

-- ---- contents: a number of k bytes is `le_bytes k`; floats have eight bytes each, NaN is 7FF8000000000000

abbrev pub number_pieces : List Float → List (List ℕ)
number_pieces xs = map (λ x. le_bytes 8 (bits_of x)) xs

abbrev pub number_bytes : List Float → List ℕ
number_bytes xs = joined (number_pieces xs)

-- a whole number from −32,768 to 65,535 has two: its own, or those of 65,536 more where it is below zero
abbrev pub short_of : ℤ → ℕ
short_of z = pick (lt_z z (pos 0)) (65536 - nat_abs z) (nat_abs z)

abbrev pub short_pieces : List ℤ → List (List ℕ)
short_pieces zs = map (λ z. le_bytes 2 (short_of z)) zs

abbrev pub short_bytes : List ℤ → List ℕ
short_bytes zs = joined (short_pieces zs)
