-- Laws of Arguments: two words compared byte by byte, and digits. Assumes nothing.
use Rattle.std.specs.Prelude.{ℕ, suc, ◌+◌, ◌*◌, ◌^◌, ◌<◌, ◌≤◌, ◌≡◌, refl, Bool, true, false, ◌&&◌, List, [], ◌∷◌, eqb, length, get_or, drop, Option, Some, None, Ok, SomeIff, option_and_then}
use Rattle.std.specs.Char.{digit_value}
use Rattle.std.proofs.Common.{sym, ap, ◌∙◌, true≢false, add-one, arith, eq-eqb, ne_eqb, drop_of_length-le, drop-cons}
use Rattle.std.proofs.Math.Nat.{pow-succ', pow-le-pow_right}
use Rattle.std.proofs.lemmas.Bool.{false_from_ne_true}
use Rattle.std.proofs.lemmas.Grind.{common_steps}
use Rattle.numbers.specs.Pick.{pick}
use Rattle.numbers.specs.laws.Pick.{and_parts, hit, skip}
use Rattle.drivers.specs.Text.{bytes_of}
use lib.Pointwise.{pointwise}
use Rattle.commands.specs.Arguments.{same_word, hex_digit, hex_on, hex_value, limit_read, limit_of, asks}

-- words of other lengths are not the same
same_length : (a b : List ℕ) → same_word a b ≡ true → length a ≡ length b
unfolding same_word
same_length [] [] e = refl
same_length [] (y ∷ b) e = absurd (true≢false (sym e))
same_length (x ∷ a) [] e = absurd (true≢false (sym e))
same_length (x ∷ a) (y ∷ b) e = ap suc (same_length a b (and_parts (eqb x y) (same_word a b) e).1)

pub other_length : (a b : List ℕ) → (length a ≡ length b → ⊥) → same_word a b ≡ false
other_length a b h = false_from_ne_true (same_word a b) (λ e. h (same_length a b e))

-- the library compares slices likewise
pub pointwise_same : (a b : List ℕ) → pointwise eqb a b ≡ same_word a b
unfolding same_word
pointwise_same [] [] = refl
pointwise_same [] (y ∷ b) = refl
pointwise_same (x ∷ a) [] = refl
pointwise_same (x ∷ a) (y ∷ b) = ap (λ (t : Bool). eqb x y && t) (pointwise_same a b)

pub word_is : (a b c : List ℕ) (r : Bool) → r ≡ pointwise eqb a b → b ≡ c → same_word a c ≡ r
word_is a b c r h k = sym (h ∙ pointwise_same a b ∙ ap (same_word a) k)

pub asked : (count arguments : ℕ) (word name : List ℕ) (r : Bool) → r ≡ pointwise eqb word name → (eqb count arguments && r) ≡ asks count word arguments name
asked count arguments word name r h = ap (λ (t : Bool). eqb count arguments && t) (h ∙ pointwise_same word name)

-- ---- hexadecimal digits

digit_some : (c : ℕ) → digit_value c < 16 → Some (digit_value c) ≡ hex_digit c
unfolding hex_digit pick
digit_some c h = grind (arith, common_steps)

digit_none : (c : ℕ) → 16 ≤ digit_value c → None ≡ hex_digit c
unfolding hex_digit pick
digit_none c h = grind (arith, common_steps)

-- `to_digit` answers likewise
pub digit_is : (c : ℕ) (r : Option ℕ) → SomeIff r (digit_value c < 16) (digit_value c) → r ≡ hex_digit c
digit_is c (Some x) h = ap Some h.1 ∙ digit_some c h.0
digit_is c None h = digit_none c (omega (arith, h))

-- the number of a word's first digits, and it is theirs
pub record HexRead (word : List ℕ) (value i : ℕ) : Type 0 where
  pub is : hex_on 0 word ≡ hex_on value (drop i word)
  pub small : value < 16 ^ i

module _ (word : List ℕ) where
  pub hex_none : HexRead word 0 0
  hex_none = record { is = refl; small = omega arith }

  module _ (value i : ℕ) (read : HexRead word value i) where
    -- it fits 64 bits with a digit more
    pub hex_fits : (d : ℕ) → i < 16 → d < 16 → value * 16 + d < 2 ^ 64
    hex_fits d h k =
        let p : 16 ^ i ≤ 16 ^ 15 = pow-le-pow_right {n = 16} (omega arith) {j = 15} (omega arith) in
        omega (arith, read.small, p)

    next : i < length word → hex_on value (drop i word) ≡ option_and_then (λ d. hex_on (value * 16 + d) (drop (i + 1) word)) (hex_digit (get_or word i 0))
    unfolding hex_on
    next h = rw (add-one i) (ap (hex_on value) (drop-cons word i 0 h))

    pub hex_turn : (d : ℕ) → i < length word → d < 16 → Some d ≡ hex_digit (get_or word i 0) → HexRead word (value * 16 + d) (i + 1)
    hex_turn d h k e = record {
      is = read.is ∙ next h ∙ ap (option_and_then (λ d. hex_on (value * 16 + d) (drop (i + 1) word))) (sym e);
      small = let p : 16 ^ (i + 1) ≡ 16 * 16 ^ i = ap (λ j. 16 ^ j) (add-one i) ∙ pow-succ' 16 i in omega (arith, read.small, p);
    }

    pub hex_stop : i < length word → length word ≡ 16 → None ≡ hex_digit (get_or word i 0) → None ≡ hex_value word
    unfolding hex_value
    hex_stop h l e =
        hit _ _ _ _ (eq-eqb (length word) 16 l) (ap (option_and_then (λ d. hex_on (value * 16 + d) (drop (i + 1) word))) e ∙ sym (read.is ∙ next h))

    pub hex_done : 16 ≤ i → length word ≡ 16 → Some value ≡ hex_value word
    unfolding hex_value hex_on
    hex_done h l = hit _ _ _ _ (eq-eqb (length word) 16 l) (sym (read.is ∙ ap (hex_on value) (drop_of_length-le word (omega (arith, h, l)))))

  pub hex_short : (length word ≡ 16 → ⊥) → None ≡ hex_value word
  unfolding hex_value
  hex_short h = skip _ _ _ _ (ne_eqb (length word) 16 h) refl

-- ---- limits

module _ (word : List ℕ) where
  pub own_taken : same_word word (bytes_of "-") ≡ true → Ok None ≡ limit_of word
  unfolding limit_of
  own_taken h = hit _ _ _ _ h refl

  pub digits_taken : (bits : Option ℕ) → same_word word (bytes_of "-") ≡ false → bits ≡ hex_value word → limit_read bits ≡ limit_of word
  unfolding limit_of
  digits_taken bits h e = skip _ _ _ _ h (ap limit_read e)
