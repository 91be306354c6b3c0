-- A field as it is written, and where it stands in a record: its bytes, its header, the numbers of its content. Assumes nothing.
use Prim.Native.Nat.{ℕ, zero, suc, ◌+◌, ◌-◌, ◌*◌, ◌/◌, ◌%◌, ◌^◌, ◌≤◌, ◌<◌}
use Rattle.std.specs.Prelude.{◌≡◌, refl, false, T, take, get_or, ℤ, Float}
use Rattle.std.proofs.Math.Path.{sym, ap}
use Rattle.std.proofs.Common.{◌∙◌, pow-suc, one-mul, zero-mul, suc-mul, le-ltb, take_at, drop-drop}
use mathlib.Core.List.{List, [], ◌∷◌, ◌++◌, map, append_assoc}
use Rattle.std.proofs.Math.Nat.{pow-zero}
use native.Mathlib.Omega.{arith}
use Rattle.std.proofs.Math.ListN.{length, drop, length-append, length-drop}
use Rattle.std.proofs.lemmas.List.{take-append-le, drop-append-le}
use Rattle.std.proofs.Math.Seq.{drop-append-add, drop_at}
use Rattle.std.specs.Float.{nan}
use Rattle.std.specs.Float.Ieee.{binary64, fits}
use Rattle.std.specs.Float.Ieee.Bits.{of_bits-to_bits, to_bits-lt}
use Rattle.numbers.specs.Bits.{float_of, bits_of, le_number, le_bytes, word_at}
use Rattle.numbers.specs.laws.Bits.{length_bytes, bytes_again, word_low}
use Rattle.numbers.specs.laws.Arr.{tab_ext, tab_cong}
use Rattle.numbers.specs.laws.Pick.{is_skip}
use Rattle.drivers.specs.Text.{joined}
use Rattle.drivers.specs.Record.{byte_at, length_at, index_at, overruns, after, content_of, number_at, numbers_at}
use Rattle.drivers.specs.Fields.{Field, header, field_bytes, number_bytes, short_of, short_bytes}
use Rattle.drivers.specs.Rules.{rules, rule_at, index_of, rule_length, row_place}

-- every number of a list is one of the format, as each f64 is
abbrev pub AllF64 : List Float → Type 0
AllF64 xs = (i : ℕ) → i < length xs → T (fits binary64 (get_or xs i nan))

-- ---- numbers

-- pieces of k bytes each
length_pieces : {X : Type 0} (k : ℕ) (word : X → ℕ) (xs : List X) → length (joined (map (λ x. le_bytes k (word x)) xs)) ≡ length xs * k
unfolding joined
length_pieces k word [] = sym (zero-mul k)
length_pieces k word (x ∷ xs) =
    let r = joined (map (λ x. le_bytes k (word x)) xs) in
    length-append (le_bytes k (word x)) r ∙ omega (arith, length_bytes k (word x), length_pieces k word xs, suc-mul (length xs) k)

pub length_numbers : (xs : List Float) → length (number_bytes xs) ≡ 8 * length xs
length_numbers xs = length_pieces 8 bits_of xs ∙ omega arith

pub length_shorts : (zs : List ℤ) → length (short_bytes zs) ≡ 2 * length zs
length_shorts zs = length_pieces 2 short_of zs ∙ omega arith

pub length_field : (f : Field) → length (field_bytes f) ≡ 3 + length f.1
unfolding le_bytes
length_field f = length-append (header f.0 (length f.1)) f.1

-- the number at the front of a content, and those behind it
module _ (x : Float) (rest : List ℕ) where
  front_again : T (fits binary64 x) → float_of (word_at (le_bytes 8 (bits_of x) ++ rest) 0) ≡ x
  unfolding word_at
  front_again h =
      ap (λ (l : List ℕ). float_of (le_number l)) (take_at (le_bytes 8 (bits_of x)) rest 8 (length_bytes 8 (bits_of x)))
      ∙ ap float_of (bytes_again 8 (bits_of x) (to_bits-lt binary64 x h))
      ∙ of_bits-to_bits binary64 x h

  behind : (i : ℕ) → word_at (le_bytes 8 (bits_of x) ++ rest) (8 * suc i) ≡ word_at rest (8 * i)
  unfolding word_at
  behind i =
      let b = le_bytes 8 (bits_of x) in
      let e : 8 * suc i ≡ length b + 8 * i = omega (arith, length_bytes 8 (bits_of x)) in
      ap (λ (k : ℕ). le_number (take 8 (drop k (b ++ rest)))) e ∙ ap (λ (l : List ℕ). le_number (take 8 l)) (drop-append-add b rest (8 * i))

number_again : (xs : List Float) (rest : List ℕ) → AllF64 xs → (i : ℕ) → i < length xs → get_or xs i nan ≡ float_of (word_at (number_bytes xs ++ rest) (8 * i))
unfolding joined
number_again [] rest h i l = absurd (omega (arith, l))
number_again (x ∷ xs) rest h zero l =
    sym (ap (λ (b : List ℕ). float_of (word_at b 0)) (append_assoc (le_bytes 8 (bits_of x)) (number_bytes xs) rest) ∙ front_again x (number_bytes xs ++ rest) (h 0 l))
number_again (x ∷ xs) rest h (suc i) l =
    number_again xs rest (λ j m. h (suc j) (omega arith)) i (omega arith)
    ∙ sym (ap (λ (b : List ℕ). float_of (word_at b (8 * suc i))) (append_assoc (le_bytes 8 (bits_of x)) (number_bytes xs) rest) ∙ ap float_of (behind x (number_bytes xs ++ rest) i))

-- numbers that were written are read again; integers: `word_low`
pub numbers_read : (bytes : List ℕ) (p : ℕ) (xs : List Float) (rest : List ℕ) → AllF64 xs → drop p bytes ≡ number_bytes xs ++ rest → numbers_at bytes p (length xs) ≡ xs
unfolding number_at
numbers_read bytes p xs rest h e =
    sym (tab_ext (λ i. float_of (word_at (drop p bytes) (8 * i))) (length xs) xs refl (λ i l. number_again xs rest h i l ∙ sym (ap (λ (b : List ℕ). float_of (word_at b (8 * i))) e)))

-- ---- a field that stands in a record, with `rest` behind it

pub record Stands (bytes : List ℕ) (at : ℕ) (f : Field) (rest : List ℕ) : Type 0 where
  pub tag_is : byte_at bytes at ≡ f.0
  pub length_is : length_at bytes at ≡ length f.1
  pub whole : at + (3 + length f.1) ≤ length bytes
  pub content_is : drop (at + 3) bytes ≡ f.1 ++ rest
  pub next_is : drop (at + (3 + length f.1)) bytes ≡ rest

-- a tag is a byte, and a length two
abbrev pub Writable : Field → Type 0
Writable f = (f.0 < 256) × (length f.1 < 65536)

-- a header from its three bytes
header_is : (w tag size : ℕ) → w % 256 ^ 3 ≡ tag + 256 * size → tag < 256 → size < 65536 → (w % 256 ≡ tag) × (w / 256 % 65536 ≡ size)
header_is w tag size e t s = (omega arith, omega arith)

module _ (bytes : List ℕ) where
  pub stands : (at : ℕ) (f : Field) (rest : List ℕ) → Writable f → drop at bytes ≡ field_bytes f ++ rest → Stands bytes at f rest
  unfolding le_bytes
  stands at f rest h e =
      let size = length f.1 in
      let split = append_assoc (header f.0 size) f.1 rest in
      let low = word_low bytes at 3 (f.0 + 256 * size) (f.1 ++ rest) (omega arith) (omega (arith, h.0, h.1)) (e ∙ split) in
      let head = header_is (word_at bytes at) f.0 size low h.0 h.1 in
      let content = sym (drop-drop 3 at bytes) ∙ ap (drop 3) (e ∙ split) in
      let long = sym (length-drop at bytes) ∙ ap length e ∙ length-append (field_bytes f) rest in
      let n : at + 3 + size ≡ at + (3 + size) = omega arith in
      record {
        tag_is = head.0;
        length_is = head.1;
        whole = omega (arith, long);
        content_is = content;
        next_is = ap (λ (k : ℕ). drop k bytes) (sym n) ∙ sym (drop-drop size (at + 3) bytes) ∙ ap (drop size) content ∙ drop_at f.1 rest size refl;
      }

  -- nothing of it is cut short
  module _ {at : ℕ} {f : Field} {rest : List ℕ} (s : Stands bytes at f rest) where
    pub not_over : overruns bytes at ≡ false
    not_over = le-ltb (length bytes - at) (3 + length_at bytes at) (omega (arith, s.whole, s.length_is))

    pub content_at : content_of bytes at ≡ at + 3
    content_at = is_skip _ _ _ (le-ltb (length bytes - at) 3 (omega (arith, s.whole)))

    pub index_is : index_at bytes at ≡ index_of f.0
    index_is = ap index_of s.tag_is

    pub after_is : after bytes at ≡ at + (3 + length f.1)
    unfolding after
    after_is = is_skip _ _ _ not_over ∙ ap (λ (k : ℕ). at + (3 + k)) s.length_is

    -- numbers that the content holds
    pub numbers_are : (n : ℕ) → 8 * n ≤ length f.1 → numbers_at bytes (at + 3) n ≡ numbers_at f.1 0 n
    unfolding number_at word_at
    numbers_are n h = tab_cong (number_at bytes (at + 3)) (number_at f.1 0) n each
      where
        each : (k : ℕ) → k < n → number_at bytes (at + 3) k ≡ number_at f.1 0 k
        each k l =
            ap (λ (b : List ℕ). float_of (le_number (take 8 (drop (8 * k) b)))) s.content_is
            ∙ ap (λ (b : List ℕ). float_of (le_number (take 8 b))) (drop-append-le (8 * k) f.1 rest (omega arith))
            ∙ ap (λ (b : List ℕ). float_of (le_number b)) (take-append-le 8 (drop (8 * k) f.1) rest (omega (arith, length-drop (8 * k) f.1)))

-- lengths that the table asks: of a row, which has n numbers, and of a matrix
pub pow_one : (n : ℕ) → n ^ 1 ≡ n
pow_one n = rw (pow-suc, pow-zero) (one-mul n)

pub pow_two : (n : ℕ) → n ^ 2 ≡ n * n
pow_two n = pow-suc n 1 ∙ ap (λ (k : ℕ). k * n) (pow_one n)

pub size_row : (n : ℕ) → rule_length row_place n ≡ 8 * n
unfolding rule_length rule_at rules
size_row n = omega (arith, pow_one n)
