-- What the proofs of `words` cite. Assumes nothing.
use Rattle.std.proofs.Common.{◌≡◌, ℕ, zero, suc, ◌+◌, ◌-◌, ◌*◌, ◌/◌, ◌<◌, ◌≤◌, true, false, List, length, get_or, Some, None, refl, ap, ◌∙◌, add-one, arith, eq-eqb, ne_eqb}
use lib.Ieee.{Float, nan}
use Rattle.numbers.specs.Arr.{tab}
use Rattle.numbers.specs.Bits.{bits_of, word_at}
use Rattle.numbers.specs.laws.Bits.{word_past, put_short, length_put}
use Rattle.numbers.specs.laws.Pick.{hit, skip}
use Rattle.lists.specs.Words.{word_of, float_at, holds, floats_at, put_word_at, put_to, floats_put, first_diff}

pub word_none : (bytes : List ℕ) (k : ℕ) → length bytes / 8 < k → 0 ≡ word_of bytes k
unfolding word_of
word_none bytes k h = word_past bytes (8 * k) (omega arith)

pub word_there : (bytes : List ℕ) (k r : ℕ) → r ≡ word_at bytes (8 * k) → r ≡ word_of bytes k
unfolding word_of
word_there bytes k r e = e

pub put_none : (bytes : List ℕ) (k w : ℕ) → length bytes / 8 ≤ k → bytes ≡ put_word_at bytes k w
put_none bytes k w h = put_short bytes (8 * k) 8 w (omega arith)

-- floats that the bytes do not hold, or do
pub floats_out : (bytes : List ℕ) (k : ℕ) (out : List Float) → holds bytes k (length out) ≡ false → out ≡ floats_at bytes k out
unfolding floats_at
floats_out bytes k out h = skip _ _ _ _ h refl

pub floats_in : (bytes : List ℕ) (k : ℕ) (out r : List Float) → holds bytes k (length out) ≡ true → r ≡ tab (λ i. float_at bytes (k + i)) (length out) → r ≡ floats_at bytes k out
unfolding floats_at
floats_in bytes k out r h e = hit _ _ _ _ h e

pub puts_out : (bytes : List ℕ) (k : ℕ) (xs : List Float) → holds bytes k (length xs) ≡ false → bytes ≡ floats_put bytes k xs
unfolding floats_put
puts_out bytes k xs h = skip _ _ _ _ h refl

pub puts_in : (bytes : List ℕ) (k : ℕ) (xs : List Float) (r : List ℕ) (i : ℕ) → holds bytes k (length xs) ≡ true → i ≤ length xs → length xs ≤ i → r ≡ put_to bytes k xs i → r ≡ floats_put bytes k xs
unfolding floats_put
puts_in bytes k xs r i h l m e =
    let s : i ≡ length xs = omega arith in
    hit _ _ _ _ h (e ∙ ap (put_to bytes k xs) s)

pub length_put_to : (bytes : List ℕ) (k : ℕ) (xs : List Float) (n : ℕ) → length (put_to bytes k xs n) ≡ length bytes
unfolding put_to
length_put_to bytes k xs zero = refl
length_put_to bytes k xs (suc n) = length_put (put_to bytes k xs n) (8 * (k + n)) 8 (bits_of (get_or xs n nan)) ∙ length_put_to bytes k xs n

pub put_turn : (bytes₀ bytes r : List ℕ) (k : ℕ) (xs : List Float) (i w : ℕ) → bytes ≡ put_to bytes₀ k xs i → w ≡ bits_of (get_or xs i nan) → r ≡ put_word_at bytes (k + i) w → r ≡ put_to bytes₀ k xs (i + 1)
unfolding put_to
put_turn bytes₀ bytes r k xs i w e f g = rw add-one (g ∙ rw (e, f))

-- the search for a difference: here, one place further, at the end
pub diff_here : (a b : List ℕ) (i n : ℕ) → i < n → (word_of a i ≡ word_of b i → ⊥) → first_diff a b i (n - i) ≡ Some i
unfolding first_diff
diff_here a b i n h d =
    let e : n - i ≡ suc (n - suc i) = omega arith in
    rw (e, ne_eqb (word_of a i) (word_of b i) d)

pub diff_turn : (a b : List ℕ) (i n : ℕ) → i < n → word_of a i ≡ word_of b i → first_diff a b i (n - i) ≡ first_diff a b (i + 1) (n - (i + 1))
unfolding first_diff
diff_turn a b i n h d =
    let e : n - i ≡ suc (n - suc i) = omega arith in
    rw (add-one, e, eq-eqb (word_of a i) (word_of b i) d)

pub diff_end : (a b : List ℕ) (i n : ℕ) → n ≤ i → first_diff a b i (n - i) ≡ None
unfolding first_diff
diff_end a b i n l =
    let e : n - i ≡ 0 = omega arith in
    rw e

pub puts_none : (bytes : List ℕ) (k : ℕ) (xs : List Float) → bytes ≡ put_to bytes k xs 0
unfolding put_to
puts_none bytes k xs = refl
