-- The operations of binary64 in their usual signs, each with one rounding, and the literals of the Rust. Definitions only.
use Rattle.std.specs.Prelude.{Float}
use Rattle.std.specs.Float.{binary64}
use Rattle.std.specs.Float.Ieee.{add, sub, mul, div, of_bits}

infixl 65 ◌⊕◌
infixl 65 ◌⊖◌
infixl 70 ◌⊗◌
infixl 70 ◌⊘◌
abbrev pub ◌⊕◌ : Float → Float → Float
a ⊕ b = add binary64 a b

abbrev pub ◌⊖◌ : Float → Float → Float
a ⊖ b = sub binary64 a b

abbrev pub ◌⊗◌ : Float → Float → Float
a ⊗ b = mul binary64 a b

abbrev pub ◌⊘◌ : Float → Float → Float
a ⊘ b = div binary64 a b

-- 0, −0, 1 and 2
abbrev pub 0ᶠ : Float
0ᶠ = of_bits binary64 0

abbrev pub −0ᶠ : Float
−0ᶠ = of_bits binary64 0x8000_0000_0000_0000

abbrev pub 1ᶠ : Float
1ᶠ = of_bits binary64 0x3ff0_0000_0000_0000

abbrev pub 2ᶠ : Float
2ᶠ = of_bits binary64 0x4000_0000_0000_0000
