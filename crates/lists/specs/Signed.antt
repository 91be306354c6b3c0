-- Signed numbers of 32 bits as words, in two's complement at 64. Definitions only.
use Rattle.std.specs.Prelude.{ℕ, zero, suc, ◌-◌, Bool, true, false, ◌||◌, List, ℤ, pos, negsuc, nat_le, nat_lt}
use Rattle.numbers.specs.Pick.{pick}
use Rattle.lists.specs.Words.{word_of}

-- whether a word is such a number
unfoldable pub is_signed : ℕ → Bool
is_signed w = nat_lt w 0x8000_0000 || nat_le 0xffff_ffff_8000_0000 w

-- its number; 0 where it has none
unfoldable pub signed_value : ℕ → ℤ
signed_value w = pick (nat_lt w 0x8000_0000) (pos w) (pick (nat_lt w 0xffff_ffff_8000_0000) (pos 0) (negsuc (0xffff_ffff_ffff_ffff - w)))

-- whether each of n words from word k on is
unfoldable pub all_signed : List ℕ → ℕ → ℕ → Bool
unfolding is_signed
all_signed bytes k zero = true
all_signed bytes k (suc n) = pick (is_signed (word_of bytes k)) (all_signed bytes (suc k) n) false

-- a number's word
unfoldable pub signed_word : ℤ → ℕ
signed_word (pos n) = n
signed_word (negsuc k) = 0xffff_ffff_ffff_ffff - k
