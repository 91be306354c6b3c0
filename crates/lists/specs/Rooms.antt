-- Sums and products of lengths, and parts of slices that may not fit. Definitions only.
use Rattle.std.specs.Prelude.{ℕ, ◌+◌, ◌*◌, min, Bool, List, [], ◌++◌, length, take, drop, replicate, ◌==◌, nat_le, nat_lt, Float}
use Rattle.numbers.specs.Pick.{pick}
use Rattle.numbers.specs.F64.{0ᶠ}
use Rattle.lists.specs.Words.{floats_at}

-- at most what 64 bits hold
abbrev pub plus_of : ℕ → ℕ → ℕ
plus_of a b = min (a + b) 0xffff_ffff_ffff_ffff

-- the product where neither is above 65,536, or one is 0
unfoldable pub times_of : ℕ → ℕ → ℕ
times_of a b =
    pick (a == 0) 0
    (pick (b == 0) 0
    (pick (nat_lt 65536 a) 0xffff_ffff_ffff_ffff
    (pick (nat_lt 65536 b) 0xffff_ffff_ffff_ffff
    (a * b))))

-- len elements from `at` on; none where they do not fit
unfoldable pub part_of : {X : Type 0} → List X → ℕ → ℕ → List X
part_of s at len = pick (nat_le (at + len) (length s)) (take len (drop at s)) []

-- the floats from word `at` on, or zeros, at the front of s; s as it was where they do not fit
unfoldable pub filled_of : List Float → List ℕ → Bool → ℕ → ℕ → List Float
unfolding floats_at
filled_of s bytes given at len =
    pick (nat_le len (length s)) (pick given (floats_at bytes at (take len s)) (replicate len 0ᶠ) ++ drop len s) s
