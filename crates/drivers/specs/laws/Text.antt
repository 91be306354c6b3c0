-- Laws of Text: pieces one after the other, and digits. Assumes nothing.
use Prim.Native.Nat.{ℕ, zero, suc, ◌+◌, ◌/◌, ◌%◌, ◌≤◌, ◌<◌}
use Rattle.std.specs.Prelude.{◌≡◌, ltb, leb, length}
use Rattle.std.proofs.Math.Path.{refl, ap}
use Rattle.std.proofs.Common.{sym, ◌∙◌, add-zero, zero-add, arith, le-leb}
use mathlib.Core.List.{List, [], ◌∷◌, ◌++◌, append_assoc}
use Rattle.std.proofs.lemmas.Bool.{lt-leb}
use Rattle.std.proofs.Math.ListN.{length-append}
use Rattle.numbers.specs.Pick.{pick}
use Rattle.numbers.specs.Over.{over}
use Rattle.numbers.specs.laws.Over.{over_none, length_over, over_on}
use Rattle.numbers.specs.laws.Bits.{shift}
use Rattle.numbers.specs.laws.Pick.{hit, skip, by_test}
use Rattle.drivers.specs.Text.{joined, digit_char, digits_of, digit_count_to, digit_count, decimal, hex}

-- ---- what the inner functions write: a piece where it fits, and pieces one after the other

-- a piece of text from `at` on, and where the next one begins; a piece that does not fit is not written
unfoldable pub put : List ℕ → ℕ → List ℕ → ℕ × List ℕ
unfolding over
put out at text = pick (leb (at + length text) (length out)) (at + length text, over out at text) (at, out)

-- pieces, one after the other
unfoldable pub put_all : List ℕ → ℕ → List (List ℕ) → ℕ × List ℕ
unfolding put
put_all out at [] = (at, out)
put_all out at (text ∷ texts) = let r = put out at text in put_all r.1 r.0 texts

-- ---- pieces

-- a piece that fits, and one that does not
pub put_fits : (out : List ℕ) (at : ℕ) (text : List ℕ) → at + length text ≤ length out → (at + length text, over out at text) ≡ put out at text
unfolding put
put_fits out at text h = hit _ _ _ _ (le-leb (at + length text) (length out) h) refl

pub put_not : (out : List ℕ) (at : ℕ) (text : List ℕ) → length out < at + length text → (at, out) ≡ put out at text
unfolding put
put_not out at text h = skip _ _ _ _ (lt-leb (at + length text) (length out) h) refl

-- none; one, or some, and then others
pub put_none : (out : List ℕ) (at : ℕ) → (at, out) ≡ put_all out at []
unfolding put_all
put_none out at = refl

put_some : (out : List ℕ) (at : ℕ) (xs ys : List (List ℕ)) → (let p = put_all out at xs in put_all p.1 p.0 ys) ≡ put_all out at (xs ++ ys)
unfolding put_all
put_some out at [] ys = refl
put_some out at (x ∷ xs) ys = let p = put out at x in put_some p.1 p.0 xs ys

module _ (out : List ℕ) (at : ℕ) (p r : ℕ × List ℕ) where
  pub put_then : (text : List ℕ) (texts : List (List ℕ)) → p ≡ put out at text → r ≡ put_all p.1 p.0 texts → r ≡ put_all out at (text ∷ texts)
  unfolding put_all
  put_then text texts e f = f ∙ ap (λ (q : ℕ × List ℕ). put_all q.1 q.0 texts) e

  pub put_on : (xs ys : List (List ℕ)) → p ≡ put_all out at xs → r ≡ put_all p.1 p.0 ys → r ≡ put_all out at (xs ++ ys)
  put_on xs ys e f = f ∙ ap (λ (q : ℕ × List ℕ). put_all q.1 q.0 ys) e ∙ put_some out at xs ys

pub put_one : (out : List ℕ) (at : ℕ) (r : ℕ × List ℕ) (text : List ℕ) → r ≡ put out at text → r ≡ put_all out at (text ∷ [])
unfolding put_all
put_one out at r text e = e

-- the same piece, told otherwise
pub put_same : (out : List ℕ) (at : ℕ) (r : ℕ × List ℕ) (text other : List ℕ) → r ≡ put out at text → text ≡ other → r ≡ put out at other
put_same out at r text other e f = e ∙ ap (put out at) f

pub joined_none : joined [] ≡ []
unfolding joined
joined_none = refl

pub joined_append : (xs ys : List (List ℕ)) → joined (xs ++ ys) ≡ joined xs ++ joined ys
unfolding joined
joined_append [] ys = refl
joined_append (x ∷ xs) ys = ap (λ (l : List ℕ). x ++ l) (joined_append xs ys) ∙ sym (append_assoc x (joined xs) (joined ys))

-- pieces that fit are one text
pub put_all_fits : (out : List ℕ) (at : ℕ) (texts : List (List ℕ)) → at + length (joined texts) ≤ length out
    → put_all out at texts ≡ (at + length (joined texts), over out at (joined texts))
unfolding put_all joined
put_all_fits out at [] h = sym (λ i. (add-zero at i, over_none out at i))
put_all_fits out at (x ∷ xs) h =
    let t = joined xs in
    let l : length (x ++ t) ≡ length x + length t = length-append x t in
    let f : at + length x ≤ length out = omega (arith, l) in
    let f' : at + length x + length t ≤ length (over out at x) = rw (length_over out at x f) (omega (arith, l)) in
    let n : at + length x + length t ≡ at + length (x ++ t) = omega (arith, l) in
    sym (put_then out at (at + length x, over out at x) _ x xs (put_fits out at x f) refl)
    ∙ put_all_fits (over out at x) (at + length x) xs f'
    ∙ (λ i. (n i, over_on out at x f t i))

pub put_joined : (out : List ℕ) (at : ℕ) (texts : List (List ℕ)) (text : List ℕ) (r : ℕ × List ℕ) → joined texts ≡ text → at + length text ≤ length out → r ≡ put_all out at texts
    → r ≡ put out at text
put_joined out at texts text r j h e =
    e ∙ put_all_fits out at texts (rw j h) ∙ ap (λ (l : List ℕ). (at + length l, over out at l)) j ∙ put_fits out at text h

-- at the front of a list
pub put_front : (out : List ℕ) (texts : List (List ℕ)) (r : ℕ × List ℕ) → length (joined texts) ≤ length out → r ≡ put_all out 0 texts
    → r ≡ (length (joined texts), over out 0 (joined texts))
put_front out texts r h e =
    let z : 0 + length (joined texts) ≡ length (joined texts) = zero-add (length (joined texts)) in
    e ∙ put_all_fits out 0 texts (omega (arith, h)) ∙ (λ i. (z i, over out 0 (joined texts)))

-- how long pieces are, from a bound for each
pub most_more : (a b : ℕ) (text : List ℕ) (texts : List (List ℕ)) → length text ≤ a → length (joined texts) ≤ b → length (joined (text ∷ texts)) ≤ a + b
unfolding joined
most_more a b text texts h k = omega (arith, length-append text (joined texts))

pub most_on : (a b : ℕ) (xs ys : List (List ℕ)) → length (joined xs) ≤ a → length (joined ys) ≤ b → length (joined (xs ++ ys)) ≤ a + b
most_on a b xs ys h k = rw (joined_append xs ys, length-append (joined xs) (joined ys)) (omega arith)

pub most_none : length (joined []) ≤ 0
unfolding joined
most_none = omega arith

-- ---- digits

module _ (base : ℕ) where
  -- the next digit stands before the lower ones
  pub digits_more : (j w : ℕ) → digits_of base (suc j) w ≡ digit_char (shift base j w % base) ∷ digits_of base j w
  unfolding digits_of shift
  digits_more zero w = refl
  digits_more (suc j) w = ap (λ (l : List ℕ). l ++ (digit_char (w % base) ∷ [])) (digits_more j (w / base))

  pub length_digits : (count w : ℕ) → length (digits_of base count w) ≡ count
  unfolding digits_of
  length_digits zero w = refl
  length_digits (suc count) w = length-append (digits_of base count (w / base)) (digit_char (w % base) ∷ []) ∙ omega (arith, length_digits count (w / base))

-- ---- how long

count_most : (most w : ℕ) → digit_count_to most w ≤ suc most
unfolding digit_count_to
count_most zero w = omega arith
count_most (suc most) w = by_test (λ (n : ℕ). n ≤ suc (suc most)) (ltb w 10) _ _ (λ _. omega arith) (λ _. omega (arith, count_most most (w / 10)))

pub length_decimal : (w : ℕ) → length (decimal w) ≤ 20
unfolding decimal digit_count
length_decimal w = rw (length_digits 10 (digit_count_to 19 w) w) (count_most 19 w)

pub length_hex : (w : ℕ) → length (hex w) ≡ 16
unfolding hex
length_hex w = length_digits 16 16 w
