-- The turns of the loops of `text`. Assumes nothing.
use Prim.Native.Nat.{ℕ, zero, suc, ◌+◌, ◌-◌, ◌*◌, ◌/◌, ◌%◌, ◌^◌, ◌≤◌, ◌<◌}
use mathlib.Core.Path.{◌≡◌, refl, sym, ap, ◌∙◌, subst}
use mathlib.Core.Bool.{Bool, true, false, not}
use mathlib.Core.List.{List, ◌∷◌, ◌++◌, append_assoc}
use native.Mathlib.Nat.{pow-succ'}
use native.Mathlib.Omega.{arith}
use borrow.Author.Tests.{lt-ltb, le-ltb, leb-true, leb-false}
use lib.Dec.{ltb, leb}
use lib.ListN.{length, take, drop, set, length-set}
use lib.Seq.{drop-drop}
use borrow.Rule.Slice.PartMut.{put_mid}
use Rattle.drivers.specs.Text.{digit_char, digits_of, digit_count_to, digit_count}
use Rattle.drivers.specs.laws.Text.{put_fits, put_not, digits_more, length_digits, put}
use Rattle.numbers.specs.laws.Pick.{is_hit, is_skip, says_no, says_yes}
use Rattle.numbers.specs.Over.{over}
use Rattle.numbers.specs.laws.Over.{over_none, store_before}
use Rattle.numbers.specs.laws.Bits.{shift, shift_more}

-- ---- a piece of k bytes, by the test of its room

module _ (out : List ℕ) (at : ℕ) (text : List ℕ) (k : ℕ) (long : length text ≡ k) (r : Bool) (e : r ≡ leb (at + k) (length out)) where
  pub no_room : not r ≡ true → (at, out) ≡ put out at text
  no_room h = put_not out at text (omega (arith, long, leb-false (at + k) (length out) (says_no r _ e h)))

  pub room : not r ≡ false → at + k ≤ length out
  room h = leb-true (at + k) (length out) (says_yes r _ e h)

-- ---- a copy

pub copied : (out : List ℕ) (at : ℕ) (text new : List ℕ) → at + length text ≤ length out → new ≡ text
    → (at + length text, put_mid at (at + length text - at) out new) ≡ put out at text
unfolding over
copied out at text new h e =
    let k : at + length text - at ≡ length text = omega arith in
    rw (e, k)
    (ap (λ (l : List ℕ). (at + length text, take at out ++ (text ++ l))) (drop-drop (length text) at out)
    ∙ ap (λ (l : List ℕ). (at + length text, l)) (sym (append_assoc (take at out) text (drop (at + length text) out))))
    ∙ put_fits out at text h

-- ---- digits, from the last one down: those from i to the end stand

pub record Down (base w : ℕ) (out₀ out : List ℕ) (end i rest : ℕ) : Type 0 where
  pub within : i ≤ end
  pub room : end ≤ length out₀
  pub long : length out ≡ length out₀
  pub left : rest ≡ shift base (end - i) w
  pub is : out ≡ over out₀ i (digits_of base (end - i) w)

module _ (base w : ℕ) (out₀ : List ℕ) (end : ℕ) where
  pub down_start : end ≤ length out₀ → Down base w out₀ out₀ end end w
  unfolding shift digits_of
  down_start h =
      let z : end - end ≡ 0 = omega arith in
      record { within = omega arith; room = h; long = refl; left = rw z; is = rw z (sym (over_none out₀ end)) }

  down_suc : (out : List ℕ) (k rest v : ℕ) → Down base w out₀ out end (suc k) rest → v ≡ digit_char (rest % base) → Down base w out₀ (set out k v) end k (rest / base)
  down_suc out k rest v h e =
      let j = end - suc k in
      let s : end - k ≡ suc j = omega (arith, h.within) in
      record {
        within = omega (arith, h.within);
        room = h.room;
        long = simp length-set h.long;
        left = rw s (ap (λ (n : ℕ). n / base) h.left ∙ shift_more base j w);
        is =
            rw s
            (ap (λ (o : List ℕ). set o k v) h.is
            ∙ store_before out₀ k (digits_of base j w) v (omega (arith, h.within, h.room, length_digits base j w))
            ∙ ap (λ (d : ℕ). over out₀ k (d ∷ digits_of base j w)) (e ∙ ap (λ (n : ℕ). digit_char (n % base)) h.left)
            ∙ ap (over out₀ k) (sym (digits_more base j w)));
      }

  pub down_turn : (out : List ℕ) (i rest v : ℕ) → Down base w out₀ out end i rest → 0 < i → v ≡ digit_char (rest % base)
      → Down base w out₀ (set out (i - 1) v) end (i - 1) (rest / base)
  down_turn out i rest v h p e =
      let s : i ≡ suc (i - 1) = omega arith in
      down_suc out (i - 1) rest v (subst (λ (n : ℕ). Down base w out₀ out end n rest) s h) e

pub down_done : (base w count at : ℕ) (out₀ out : List ℕ) (i rest : ℕ) → Down base w out₀ out (at + count) i rest → at ≤ i → i ≤ at
    → (at + count, out) ≡ put out₀ at (digits_of base count w)
down_done base w count at out₀ out i rest h l m =
    let e : i ≡ at = omega arith in
    let n : at + count - at ≡ count = omega arith in
    let d = length_digits base count w in
    let f : at + length (digits_of base count w) ≤ length out₀ = rw d h.room in
    (λ k. (at + d' d k, (h.is ∙ ap (λ (z : ℕ). over out₀ z (digits_of base (at + count - z) w)) e ∙ ap (λ (z : ℕ). over out₀ at (digits_of base z w)) n) k))
    ∙ put_fits out₀ at (digits_of base count w) f
  where
    d' : {m : ℕ} → m ≡ count → count ≡ m
    d' p = sym p

-- ---- how many digits: of the 20, so many are left

pub record Counted (w rest count : ℕ) : Type 0 where
  pub least : 1 ≤ count
  pub most : count ≤ 20
  pub small : rest < 10 ^ (21 - count)
  pub is : digit_count w ≡ count - 1 + digit_count_to (20 - count) rest

pub counted_start : (w : ℕ) → w < 2 ^ 64 → Counted w w 1
unfolding digit_count
counted_start w h = record { least = omega arith; most = omega arith; small = omega arith; is = omega arith }

few : (l rest : ℕ) → rest < 10 → digit_count_to l rest ≡ 1
unfolding digit_count_to
few zero rest h = refl
few (suc l) rest h = is_hit (ltb rest 10) 1 (suc (digit_count_to l (rest / 10))) (lt-ltb rest 10 h)

-- another digit
more : (l rest : ℕ) → 10 ≤ rest → rest < 10 ^ suc l → (1 ≤ l) × (rest / 10 < 10 ^ l) × (digit_count_to l rest ≡ suc (digit_count_to (l - 1) (rest / 10)))
unfolding digit_count_to
more zero rest h m = absurd (omega (arith, m))
more (suc l) rest h m = (omega arith, below (10 ^ suc l) rest (subst (λ (n : ℕ). rest < n) (pow-succ' 10 (suc l)) m), is_skip (ltb rest 10) 1 (suc (digit_count_to l (rest / 10))) (le-ltb rest 10 h) ∙ ap (λ (n : ℕ). suc (digit_count_to n (rest / 10))) (back l))
  where
    below : (p n : ℕ) → n < 10 * p → n / 10 < p
    below p n h = omega arith

    back : (n : ℕ) → n ≡ suc n - 1
    back n = omega arith

pub counted_turn : (w rest count : ℕ) → Counted w rest count → 10 ≤ rest → (count < 20) × Counted w (rest / 10) (count + 1)
counted_turn w rest count h g =
    let l = 20 - count in
    let e : 21 - count ≡ suc l = omega (arith, h.most) in
    let m = more l rest g (subst (λ (n : ℕ). rest < 10 ^ n) e h.small) in
    let b : count < 20 = omega (arith, m.0) in
    let s : 21 - (count + 1) ≡ l = omega arith in
    let t : 20 - (count + 1) ≡ l - 1 = omega arith in
    (b, record { least = omega arith; most = omega arith; small = rw s m.1; is = h.is ∙ rw (t, m.2) (one_on count (digit_count_to (l - 1) (rest / 10)) h.least) })
  where
    one_on : (c n : ℕ) → 1 ≤ c → c - 1 + suc n ≡ c + 1 - 1 + n
    one_on c n h = omega arith

pub counted_done : (w rest count : ℕ) → Counted w rest count → rest < 10 → count ≡ digit_count w
counted_done w rest count h g = omega (arith, h.is, few (20 - count) rest g, h.least)
