-- Laws of limits: a float's digits, as `filterrun` prints them, are taken back as that float, in either case. Assumes nothing.
use Rattle.std.specs.Prelude.{ℕ, zero, suc, ◌+◌, ◌*◌, ◌/◌, ◌%◌, ◌^◌, ◌<◌, ◌≡◌, refl, ◌&&◌, List, [], ◌∷◌, ◌++◌, eqb, length, map, T, Option, Some, None, Ok, Err, option_and_then, Float}
use Rattle.std.specs.Float.{binary64}
use Rattle.std.specs.Float.Ieee.{fits, of_bits}
use Rattle.std.specs.Float.Ieee.Bits.{of_bits-to_bits, to_bits-lt}
use Rattle.std.specs.Char.{to_ascii_lowercase}
use Rattle.std.proofs.Common.{sym, ap, ◌∙◌, arith, eq-eqb}
use Rattle.std.proofs.lemmas.List.{length-map}
use Rattle.std.proofs.Math.Nat.{pow-succ'}
use Rattle.std.proofs.lemmas.Grind.{common_steps}
use Rattle.numbers.specs.F64.{1ᶠ}
use Rattle.numbers.specs.Pick.{pick}
use Rattle.numbers.specs.Bits.{bits_of}
use Rattle.numbers.specs.laws.Pick.{is_hit, is_skip}
use Rattle.drivers.specs.Text.{bytes_of, digit_char, digits_of, hex}
use Rattle.drivers.specs.laws.Text.{length_hex}
use Rattle.commands.specs.Arguments.{same_word, hex_digit, hex_on, hex_value, limit_read, limit_of, command_of}
use Rattle.commands.specs.laws.Arguments.{other_length}
use Rattle.commands.specs.declared.arguments.Command.TheVariants.{Usage}

digit_again : (d : ℕ) → d < 16 → hex_digit (digit_char d) ≡ Some d
unfolding hex_digit digit_char pick
digit_again d h = grind (arith, common_steps)

-- three steps, each of which may give nothing
and_then_assoc : {A B C : Type 0} (f : A → Option B) (g : B → Option C) (o : Option A) → option_and_then g (option_and_then f o) ≡ option_and_then (λ a. option_and_then g (f a)) o
and_then_assoc f g (Some a) = refl
and_then_assoc f g None = refl

-- digits behind others
digits_then : (w : ℕ) (u v : List ℕ) → hex_on w (u ++ v) ≡ option_and_then (λ x. hex_on x v) (hex_on w u)
unfolding hex_on
digits_then w [] v = refl
digits_then w (c ∷ u) v =
    (λ i. option_and_then (λ d. digits_then (w * 16 + d) u v i) (hex_digit c))
    ∙ sym (and_then_assoc (λ d. hex_on (w * 16 + d) u) (λ x. hex_on x v) (hex_digit c))

digits_again : (count w : ℕ) → w < 16 ^ count → hex_on 0 (digits_of 16 count w) ≡ Some w
unfolding hex_on digits_of
digits_again zero w h = ap Some (omega arith)
digits_again (suc count) w h =
    let up : w < 16 * 16 ^ count = omega (arith, h, pow-succ' 16 count) in
    let last = digit_char (w % 16) ∷ [] in
    digits_then 0 (digits_of 16 count (w / 16)) last
    ∙ ap (option_and_then (λ x. hex_on x last)) (digits_again count (w / 16) (below (16 ^ count) w up))
    ∙ ap (option_and_then (λ d. Some (w / 16 * 16 + d))) (digit_again (w % 16) (omega arith))
    ∙ ap Some (omega arith)
  where
    below : (p w : ℕ) → w < 16 * p → w / 16 < p
    below p w h = omega arith

value_again : (w : ℕ) → w < 2 ^ 64 → hex_value (hex w) ≡ Some w
unfolding hex_value hex
value_again w h = is_hit _ _ _ (eq-eqb (length (hex w)) 16 (length_hex w)) ∙ digits_again 16 w h

-- A float's digits are its limit.
pub limit_again : (x : Float) → T (fits binary64 x) → limit_of (hex (bits_of x)) ≡ Ok (Some x)
unfolding limit_of
limit_again x h =
    let w = bits_of x in
    is_skip _ _ _ (other_length (hex w) (bytes_of "-") (λ e. omega (arith, e, length_hex w)))
    ∙ ap limit_read (value_again w (to_bits-lt binary64 x h))
    ∙ ap (λ y. Ok (Some y)) (of_bits-to_bits binary64 x h)

-- ---- in lower case

digit_lower : (c : ℕ) → hex_digit (to_ascii_lowercase c) ≡ hex_digit c
unfolding hex_digit pick
digit_lower c = grind (arith, common_steps)

digits_lower : (w : ℕ) (word : List ℕ) → hex_on w (map to_ascii_lowercase word) ≡ hex_on w word
unfolding hex_on
digits_lower w [] = refl
digits_lower w (c ∷ word) = λ i. option_and_then (λ d. digits_lower (w * 16 + d) word i) (digit_lower c i)

dash_lower : (c : ℕ) → eqb (to_ascii_lowercase c) 45 ≡ eqb c 45
dash_lower c = grind (arith, common_steps)

own_lower : (word : List ℕ) → same_word (map to_ascii_lowercase word) (bytes_of "-") ≡ same_word word (bytes_of "-")
unfolding same_word
own_lower [] = refl
own_lower (c ∷ word) = λ i. dash_lower c i && none_left word i
  where
    none_left : (word : List ℕ) → same_word (map to_ascii_lowercase word) [] ≡ same_word word []
    none_left [] = refl
    none_left (c ∷ word) = refl

-- A word in lower case is taken as it is taken itself.
pub limit_lower : (word : List ℕ) → limit_of (map to_ascii_lowercase word) ≡ limit_of word
unfolding limit_of hex_value
limit_lower word =
    λ i. pick (own_lower word i) (Ok None) (limit_read (pick (eqb (length-map word to_ascii_lowercase i) 16) (digits_lower 0 word i) None))

-- ---- computed

-- 1, in either case, and what is no limit: 15 digits, the letter G, nothing
pub known : (limit_of (bytes_of "3FF0000000000000") ≡ Ok (Some 1ᶠ)) × (limit_of (bytes_of "3ff0000000000000") ≡ Ok (Some 1ᶠ)) × (limit_of (bytes_of "3FF000000000000") ≡ Err (record {}))
    × (limit_of (bytes_of "3FG0000000000000") ≡ Err (record {})) × (limit_of [] ≡ Err (record {}))
unfolding pick same_word hex_digit hex_on hex_value limit_of of_bits
known = (refl, refl, refl, refl, refl)

-- `file` is `limits - - -`, and a word that is no limit asks for the usage
pub asked_known : (command_of 2 (bytes_of "file") [] [] [] ≡ command_of 5 (bytes_of "limits") (bytes_of "-") (bytes_of "-") (bytes_of "-"))
    × (command_of 5 (bytes_of "limits") (bytes_of "-") (bytes_of "-") (bytes_of "0") ≡ Usage)
unfolding pick same_word hex_digit hex_on hex_value limit_of command_of
asked_known = (refl, refl)
