-- What the proofs of `bits` cite: which patterns are a NaN's, one byte more of a word, read from the top and written from the bottom, and a word from its halves.
use mathlib.Core.Path.{◌≡◌, refl, sym, ap, ◌∙◌, subst}
use mathlib.Core.Bool.{true, false, not}
use mathlib.Core.List.{List, [], ◌∷◌}
use Prim.Native.Nat.{ℕ, zero, suc, ◌+◌, ◌-◌, ◌*◌, ◌/◌, ◌%◌, ◌^◌, ◌≤◌, ◌<◌}
use native.Mathlib.Omega.{arith}
use native.Mathlib.Numerals.{add-one}
use borrow.Author.Tests.{lt-ltb, le-ltb}
use lib.Dec.{T}
use lib.ListN.{length, take, drop, get_or, set, length-set, length-drop}
use lib.Seq.{drop-cons, drop-length, take_all}
use lib.Ieee.{Float, nan, inf, fin, binary64, is_nan, ne, of_bits, to_bits, nan_bits}
use lib.Ieee.Compare.{differs_from_itself, nan_differs}
use lib.Ieee.Bits.{nan_bits_is, nan_bits_above}
use Rattle.numbers.specs.Bits.{le_number, le_bytes, word_at, put_bytes}
use Rattle.numbers.specs.laws.Bits.{length_bytes, shift, shift_more, bytes_more, put_fits}
use Rattle.numbers.specs.Over.{over}
use Rattle.numbers.specs.laws.Over.{over_none, store_on}

nan_of_is_nan : (x : Float) → is_nan x ≡ true → x ≡ nan
unfolding is_nan
nan_of_is_nan nan h = refl
nan_of_is_nan (inf s) h = absurd (subst T (sym h) tt)
nan_of_is_nan (fin s m e) h = absurd (subst T (sym h) tt)

pub above_nan : (w : ℕ) → 0x7ff0_0000_0000_0000 < w % 0x8000_0000_0000_0000 → nan ≡ of_bits binary64 w
above_nan w h =
    sym (nan_of_is_nan (of_bits binary64 w) (sym (nan_bits_is binary64 w) ∙ nan_bits_above binary64 w ∙ lt-ltb 0x7ff0_0000_0000_0000 (w % 0x8000_0000_0000_0000) h))

pub below_number : (w : ℕ) → w % 0x8000_0000_0000_0000 ≤ 0x7ff0_0000_0000_0000 → nan_bits binary64 w ≡ false
below_number w h = nan_bits_above binary64 w ∙ le-ltb 0x7ff0_0000_0000_0000 (w % 0x8000_0000_0000_0000) h

pub nan_pattern : (x : Float) → ne x x ≡ true → 0x7ff8_0000_0000_0000 ≡ to_bits binary64 x
unfolding to_bits
nan_pattern x h = sym (ap (to_bits binary64) (differs_from_itself x (subst T (sym h) tt)))

pub no_nan : (x : Float) → ne x x ≡ false → T (not (is_nan x))
unfolding is_nan
no_nan nan h = absurd (subst T (sym nan_differs ∙ h) tt)
no_nan (inf s) h = tt
no_nan (fin s m e) h = tt

-- one byte below a number of n bytes
pub byte_more : (n w b : ℕ) → n < 8 → w < 256 ^ n → b < 256 → (w * 256 + b < 256 ^ suc n) × (w * 256 + b < 0x1_0000_0000_0000_0000)
byte_more zero w b h lw lb = (omega arith, omega arith)
byte_more (suc zero) w b h lw lb = (omega arith, omega arith)
byte_more (suc (suc zero)) w b h lw lb = (omega arith, omega arith)
byte_more (suc (suc (suc zero))) w b h lw lb = (omega arith, omega arith)
byte_more (suc (suc (suc (suc zero)))) w b h lw lb = (omega arith, omega arith)
byte_more (suc (suc (suc (suc (suc zero))))) w b h lw lb = (omega arith, omega arith)
byte_more (suc (suc (suc (suc (suc (suc zero)))))) w b h lw lb = (omega arith, omega arith)
byte_more (suc (suc (suc (suc (suc (suc (suc zero))))))) w b h lw lb = (omega arith, omega arith)
byte_more (suc (suc (suc (suc (suc (suc (suc (suc n)))))))) w b h lw lb = absurd (no h)
  where
    no : suc (suc (suc (suc (suc (suc (suc (suc n))))))) < 8 → ⊥
    no h = omega arith

-- the number of the bytes from i on, from that of the bytes after i
pub number_down : (bytes : List ℕ) (i w : ℕ) → i < length bytes → w ≡ le_number (drop (suc i) bytes) → w * 256 + get_or bytes i 0 ≡ le_number (drop i bytes)
unfolding le_number
number_down bytes i w h e = rw (drop-cons bytes i 0 h, ← e) (omega arith)

-- the number of the first four bytes, and that of all from it and the rest's
number_four : (bytes : List ℕ)
    → (get_or bytes 0 0 + 0x100 * get_or bytes 1 0 + 0x1_0000 * get_or bytes 2 0 + 0x100_0000 * get_or bytes 3 0 ≡ le_number (take 4 bytes))
    × (le_number (take 4 bytes) + 0x1_0000_0000 * le_number (drop 4 bytes) ≡ le_number bytes)
unfolding le_number
number_four [] = (refl, refl)
number_four (a ∷ []) = (omega arith, omega arith)
number_four (a ∷ b ∷ []) = (omega arith, omega arith)
number_four (a ∷ b ∷ c ∷ []) = (omega arith, omega arith)
number_four (a ∷ b ∷ c ∷ d ∷ rest) = (omega arith, omega arith)

pub half_is : (bytes : List ℕ) (w : ℕ) → length bytes ≡ 4 → w ≡ get_or bytes 0 0 + 0x100 * get_or bytes 1 0 + 0x1_0000 * get_or bytes 2 0 + 0x100_0000 * get_or bytes 3 0 → w ≡ le_number bytes
half_is bytes w h e = e ∙ (number_four bytes).0 ∙ ap le_number (take_all 4 bytes (omega arith))

pub halves_are : (bytes : List ℕ) (low high : ℕ) → low ≡ le_number (take 4 bytes) → high ≡ le_number (take (length bytes - 4) (drop 4 bytes)) → low + 0x1_0000_0000 * high ≡ le_number bytes
halves_are bytes low high a b =
    let e = ap le_number (take_all (length bytes - 4) (drop 4 bytes) (omega (arith, length-drop 4 bytes))) in
    omega (arith, (number_four bytes).1)

-- w is the number of the bytes from i on
pub record Read (bytes : List ℕ) (w i : ℕ) : Type 0 where
  pub within : i ≤ length bytes
  pub number : w ≡ le_number (drop i bytes)
  pub small : w < 256 ^ (length bytes - i)

pub read_none : (bytes : List ℕ) → Read bytes 0 (length bytes)
unfolding le_number
read_none bytes = record { within = omega arith; number = sym (ap le_number (drop-length bytes)); small = subst (λ (n : ℕ). 0 < 256 ^ n) (none (length bytes)) (omega arith) }
  where
    none : (n : ℕ) → 0 ≡ n - n
    none n = omega arith

read_suc : (bytes : List ℕ) (w j : ℕ) → length bytes ≤ 8 → Read bytes w (suc j) → get_or bytes j 0 < 256 → Read bytes (w * 256 + get_or bytes j 0) j × (w * 256 + get_or bytes j 0 < 0x1_0000_0000_0000_0000)
read_suc bytes w j l r b =
    let h : j < length bytes = omega (arith, r.within) in
    let e : suc (length bytes - suc j) ≡ length bytes - j = omega arith in
    let m = byte_more (length bytes - suc j) w (get_or bytes j 0) (omega arith) r.small b in
    (record { within = omega arith; number = number_down bytes j w h r.number; small = subst (λ (n : ℕ). w * 256 + get_or bytes j 0 < 256 ^ n) e m.0 }, m.1)

pub read_turn : (bytes : List ℕ) (w i b : ℕ) → length bytes ≤ 8 → 0 < i → Read bytes w i → b ≡ get_or bytes (i - 1) 0 → get_or bytes (i - 1) 0 < 256 → Read bytes (w * 256 + b) (i - 1) × (w * 256 + b < 0x1_0000_0000_0000_0000)
read_turn bytes w i b l p r e h =
    let s : i ≡ suc (i - 1) = omega arith in
    rw e (read_suc bytes w (i - 1) l (subst (λ (n : ℕ). Read bytes w n) s r) h)

pub read_all : (bytes : List ℕ) (w i : ℕ) → i ≤ 0 → Read bytes w i → w ≡ le_number bytes
read_all bytes w i h r =
    let z : i ≡ 0 = omega arith in
    r.number ∙ ap (λ (n : ℕ). le_number (drop n bytes)) z

-- a word that the end cuts off, or that stands whole
pub word_short : (bytes : List ℕ) (at n : ℕ) → length bytes - at ≤ 8 → n ≡ length bytes - at → le_number (take n (drop at bytes)) ≡ word_at bytes at
unfolding word_at
word_short bytes at n h e =
    ap le_number (take_all n (drop at bytes) (omega (arith, length-drop at bytes)) ∙ sym (take_all 8 (drop at bytes) (omega (arith, length-drop at bytes))))

pub word_whole : (bytes : List ℕ) (at n : ℕ) → n ≡ 8 → le_number (take n (drop at bytes)) ≡ word_at bytes at
unfolding word_at
word_whole bytes at n e = ap (λ (k : ℕ). le_number (take k (drop at bytes))) e

-- ---- the i lowest bytes of w stand from `at` on, of k that fit, and rest is what is left of w

pub record Low (k w : ℕ) (out₀ out : List ℕ) (at i rest : ℕ) : Type 0 where
  pub within : i ≤ k
  pub room : at + k ≤ length out₀
  pub long : length out ≡ length out₀
  pub left : rest ≡ shift 256 i w
  pub is : out ≡ over out₀ at (le_bytes i w)

module _ (k w : ℕ) (out₀ : List ℕ) (at : ℕ) where
  pub low_start : at + k ≤ length out₀ → Low k w out₀ out₀ at 0 w
  unfolding shift le_bytes
  low_start h = record { within = omega arith; room = h; long = refl; left = refl; is = sym (over_none out₀ at) }

  pub low_turn : (out : List ℕ) (i rest : ℕ) → Low k w out₀ out at i rest → i < k → Low k w out₀ (set out (at + i) (rest % 256)) at (i + 1) (rest / 256)
  low_turn out i rest h l =
      let n : at + i ≡ at + length (le_bytes i w) = omega (arith, length_bytes i w) in
      record {
        within = omega arith;
        room = h.room;
        long = simp length-set h.long;
        left = rw add-one (ap (λ (m : ℕ). m / 256) h.left ∙ shift_more 256 i w);
        is =
            rw (h.is, h.left, add-one, n)
            (store_on out₀ at (le_bytes i w) (shift 256 i w % 256) (omega (arith, h.room, length_bytes i w))
            ∙ ap (over out₀ at) (sym (bytes_more i w)));
      }

  pub low_done : (out : List ℕ) (i rest : ℕ) → Low k w out₀ out at i rest → k ≤ i → out ≡ put_bytes out₀ at k w
  low_done out i rest h l =
      let e : i ≡ k = omega (arith, h.within) in
      h.is ∙ ap (λ (n : ℕ). over out₀ at (le_bytes n w)) e ∙ put_fits out₀ at k w h.room
