-- What the proofs of `signed` cite. Assumes nothing.
use Rattle.std.proofs.Common.{◌≡◌, ℕ, suc, ◌+◌, ◌-◌, ◌^◌, ◌<◌, ◌≤◌, Bool, true, false, List, ℤ, pos, negsuc, Result, Ok, Err, refl, ap, ◌∙◌, add-one, arith, w32, w64, SFits, to_z, of_z, ltb-true, ltb-false, ltb}
use Rattle.std.specs.Result.{OkIff, result_unwrap_or}
use mir.Facts.{to_z_pos, to_z-neg}
use Rattle.lists.specs.Words.{word_of}
use Rattle.lists.specs.Signed.{is_signed, signed_value, all_signed, signed_word}
use Rattle.numbers.specs.laws.Pick.{hit, skip, both_ways}

-- ---- a word's number: it is the word's own at 64 bits, where that fits 32

module _ {E : Type 0} (r : Result ℤ E) (w : ℕ) where
  -- a word whose number at 64 bits is z, and fits; or does not
  fitting : (z : ℤ) → SFits w32 z → to_z w64 w ≡ z → OkIff r (SFits w32 (to_z w64 w)) (to_z w64 w) → result_unwrap_or r (pos 0) ≡ z
  fitting z f e = go r
    where
      go : (r : Result ℤ E) → OkIff r (SFits w32 (to_z w64 w)) (to_z w64 w) → result_unwrap_or r (pos 0) ≡ z
      go (Ok x) o = o.1 ∙ e
      go (Err x) o = absurd (o (rw e f))

  unfit : (z : ℤ) → (SFits w32 z → ⊥) → to_z w64 w ≡ z → OkIff r (SFits w32 (to_z w64 w)) (to_z w64 w) → result_unwrap_or r (pos 0) ≡ pos 0
  unfit z n e = go r
    where
      go : (r : Result ℤ E) → OkIff r (SFits w32 (to_z w64 w)) (to_z w64 w) → result_unwrap_or r (pos 0) ≡ pos 0
      go (Ok x) o = absurd (n (rw e at o.0))
      go (Err x) o = refl

  module _ (h : w < 2 ^ 64) (o : OkIff r (SFits w32 (to_z w64 w)) (to_z w64 w)) where
    high : 0x8000_0000_0000_0000 ≤ w → to_z w64 w ≡ negsuc (0xffff_ffff_ffff_ffff - w)
    high l =
        let k = 0xffff_ffff_ffff_ffff - w in
        let e : 2 ^ 64 - suc k ≡ w = omega arith in
        rw e at (to_z-neg w64 k (omega arith))

    middle : 0x8000_0000 ≤ w → w < 0xffff_ffff_8000_0000 → (t : Bool) → ltb w 0x8000_0000_0000_0000 ≡ t → result_unwrap_or r (pos 0) ≡ pos 0
    middle l m true e = unfit (pos w) (λ f. omega (arith, f.sfits)) (to_z_pos w64 (ltb-true _ _ e)) o
    middle l m false e = unfit (negsuc (0xffff_ffff_ffff_ffff - w)) (λ f. omega (arith, f.sfits)) (high (ltb-false _ _ e)) o

    pub value_of_word : result_unwrap_or r (pos 0) ≡ signed_value w
    unfolding signed_value
    value_of_word =
        both_ways (ltb w 0x8000_0000)
        (λ e. let l : w < 0x8000_0000 = ltb-true _ _ e in fitting (pos w) (record { sfits = l }) (to_z_pos w64 (omega arith)) o)
        (λ e. let l : 0x8000_0000 ≤ w = ltb-false _ _ e in
        both_ways (ltb w 0xffff_ffff_8000_0000)
        (λ f. middle l (ltb-true _ _ f) (ltb w 0x8000_0000_0000_0000) refl)
        (λ f. let m : 0xffff_ffff_8000_0000 ≤ w = ltb-false _ _ f in
        fitting (negsuc (0xffff_ffff_ffff_ffff - w)) (record { sfits = omega arith }) (high (omega arith)) o))

-- ---- a number's word: two's complement at 64 bits

pub word_of_value : (z : ℤ) → SFits w32 z → of_z w64 z ≡ signed_word z
unfolding signed_word
word_of_value (pos n) f = refl
word_of_value (negsuc k) f = let h = f.sfits in omega arith

pub wider : (z : ℤ) → SFits w32 z → SFits w64 z
wider (pos n) f = let h = f.sfits in record { sfits = omega arith }
wider (negsuc n) f = let h = f.sfits in record { sfits = omega arith }

-- ---- words that are signed

module _ (bytes : List ℕ) (k to : ℕ) where
  one_more : k < to → to - k ≡ suc (to - (k + 1))
  one_more h = omega arith

  pub signed_turn : k < to → is_signed (word_of bytes k) ≡ true → all_signed bytes (k + 1) (to - (k + 1)) ≡ all_signed bytes k (to - k)
  unfolding all_signed
  signed_turn h e = rw (one_more h) (hit _ _ _ _ e (ap (λ (j : ℕ). all_signed bytes j (to - (k + 1))) (add-one k)))

  pub signed_stop : k < to → is_signed (word_of bytes k) ≡ false → false ≡ all_signed bytes k (to - k)
  unfolding all_signed
  signed_stop h e = rw (one_more h) (skip _ _ _ _ e refl)

  pub signed_all : to ≤ k → true ≡ all_signed bytes k (to - k)
  unfolding all_signed
  signed_all h = let e : to - k ≡ 0 = omega arith in rw e refl
