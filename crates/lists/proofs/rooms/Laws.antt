-- What the proofs of `rooms` cite. Assumes nothing.
use Rattle.std.proofs.Common.{◌≡◌, ℕ, ◌+◌, ◌*◌, ◌<◌, ◌≤◌, ◌||◌, ◌==◌, nat_lt, Bool, true, false, List, [], ◌++◌, length, take, drop, replicate, refl, ap, ◌∙◌, length-take-le, le-leb}
use borrow.Author.Tests.{lt-leb}
use lib.Ieee.{Float}
use Rattle.numbers.specs.F64.{0ᶠ}
use Rattle.numbers.specs.Pick.{pick}
use Rattle.numbers.specs.laws.Pick.{hit, skip, or_parts}
use Rattle.lists.specs.Words.{floats_at}
use Rattle.lists.specs.Rooms.{times_of, part_of, filled_of}

-- a part that the slice does not hold, or does
pub part_out : {X : Type 0} (s : List X) (at len : ℕ) → length s < at + len → [] ≡ part_of s at len
unfolding part_of
part_out s at len h = skip _ _ _ _ (lt-leb (at + len) (length s) h) refl

pub part_in : {X : Type 0} (s : List X) (at len k : ℕ) → at + len ≤ length s → k ≡ len → take k (drop at s) ≡ part_of s at len
unfolding part_of
part_in s at len k h e = hit _ _ _ _ (le-leb (at + len) (length s) h) (ap (λ (j : ℕ). take j (drop at s)) e)

-- a front that the slice does not hold, or does: from words, or zeros
module _ (s : List Float) (bytes : List ℕ) (given : Bool) (at len : ℕ) where
  pub fill_out : length s < len → s ≡ filled_of s bytes given at len
  unfolding filled_of
  fill_out h = skip _ _ _ _ (lt-leb len (length s) h) refl

  module _ (ys : List Float) (h : len ≤ length s) where
    pub fill_given : given ≡ true → ys ≡ floats_at bytes at (take len s) → ys ++ drop len s ≡ filled_of s bytes given at len
    unfolding filled_of
    fill_given t e = hit _ _ _ _ (le-leb len (length s) h) (ap (λ (zs : List Float). zs ++ drop len s) (hit _ _ _ _ t e))

    pub fill_zeros : given ≡ false → ys ≡ replicate (length (take len s)) 0ᶠ → ys ++ drop len s ≡ filled_of s bytes given at len
    unfolding filled_of
    fill_zeros t e =
        let z : ys ≡ replicate len 0ᶠ = e ∙ ap (λ (k : ℕ). replicate k 0ᶠ) (length-take-le len s h) in
        hit _ _ _ _ (le-leb len (length s) h) (ap (λ (zs : List Float). zs ++ drop len s) (skip _ _ _ _ t z))

-- the tests of a product: of two tests one holds, or none
by_one : (s t : Bool) (x r : ℕ) → (s || t) ≡ true → x ≡ pick s x (pick t x r)
by_one true t x r e = hit _ _ _ _ refl refl
by_one false t x r e = skip _ _ _ _ refl (hit _ _ _ _ e refl)

by_none : (s t : Bool) (x r y : ℕ) → (s || t) ≡ false → y ≡ r → y ≡ pick s x (pick t x r)
by_none s t x r y e f = let p = or_parts s t e in skip _ _ _ _ p.0 (skip _ _ _ _ p.1 f)

module _ (a b : ℕ) where
  pub none : ((a == 0) || (b == 0)) ≡ true → 0 ≡ times_of a b
  unfolding times_of
  none e = by_one (a == 0) (b == 0) 0 _ e

  module _ (n : ((a == 0) || (b == 0)) ≡ false) where
    pub too_long : (nat_lt 65536 a || nat_lt 65536 b) ≡ true → 0xffff_ffff_ffff_ffff ≡ times_of a b
    unfolding times_of
    too_long e = by_none (a == 0) (b == 0) 0 _ _ n (by_one (nat_lt 65536 a) (nat_lt 65536 b) 0xffff_ffff_ffff_ffff _ e)

    pub both_short : (nat_lt 65536 a || nat_lt 65536 b) ≡ false → a * b ≡ times_of a b
    unfolding times_of
    both_short e = by_none (a == 0) (b == 0) 0 _ _ n (by_none (nat_lt 65536 a) (nat_lt 65536 b) 0xffff_ffff_ffff_ffff _ _ e refl)
