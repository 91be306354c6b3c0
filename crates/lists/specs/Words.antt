-- Words and floats in a run of bytes, by their place. Definitions only.
use Rattle.std.specs.Prelude.{ℕ, zero, suc, ◌+◌, ◌*◌, ◌/◌, Bool, cond, List, length, ◌==◌, nat_le, slice_index_or, Float, Option, Some, None}
use Rattle.std.specs.Float.{nan}
use Rattle.numbers.specs.Pick.{pick}
use Rattle.numbers.specs.Arr.{tab}
use Rattle.numbers.specs.Bits.{float_of, bits_of, word_at, put_word}

-- word k stands from byte 8 k on; past the end it is 0
unfoldable pub word_of : List ℕ → ℕ → ℕ
word_of bytes k = word_at bytes (8 * k)

abbrev pub float_at : List ℕ → ℕ → Float
float_at bytes k = float_of (word_of bytes k)

-- whether n words from word k on lie within the bytes
abbrev pub holds : List ℕ → ℕ → ℕ → Bool
holds bytes k n = nat_le (k + n) (length bytes / 8)

-- as many floats as `out` has, from word k on; `out` as it was where the bytes do not hold them all
unfoldable pub floats_at : List ℕ → ℕ → List Float → List Float
unfolding tab
floats_at bytes k out = pick (holds bytes k (length out)) (tab (λ i. float_at bytes (k + i)) (length out)) out

-- word k written, if it fits
abbrev pub put_word_at : List ℕ → ℕ → ℕ → List ℕ
put_word_at bytes k w = put_word bytes (8 * k) w

-- the first n floats of xs written from word k on
unfoldable pub put_to : List ℕ → ℕ → List Float → ℕ → List ℕ
put_to bytes k xs zero = bytes
put_to bytes k xs (suc n) = put_word_at (put_to bytes k xs n) (k + n) (bits_of (slice_index_or xs n nan))

-- all of them, if they all fit
unfoldable pub floats_put : List ℕ → ℕ → List Float → List ℕ
unfolding put_to
floats_put bytes k xs = pick (holds bytes k (length xs)) (put_to bytes k xs (length xs)) bytes

-- of the n words from word i on, the first place at which the two differ
unfoldable pub first_diff : List ℕ → List ℕ → ℕ → ℕ → Option ℕ
first_diff a b i zero = None
first_diff a b i (suc n) = cond (word_of a i == word_of b i) (first_diff a b (suc i) n) (Some i)
