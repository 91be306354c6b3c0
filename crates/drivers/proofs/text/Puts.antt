-- What the writers of fields have put. Assumes nothing.
use Prim.Native.Nat.{ℕ, ◌+◌, ◌≤◌, ◌<◌}
use mathlib.Core.Path.{◌≡◌, refl, sym, ap, ◌∙◌}
use mathlib.Core.Bool.{Bool, true, false, not}
use mathlib.Core.List.{List, [], ◌∷◌, ◌++◌, map, append-nil}
use native.Mathlib.Numerals.{add-one}
use native.Mathlib.Omega.{arith}
use borrow.Author.Tests.{leb-true, leb-false}
use lib.Dec.{leb}
use lib.ListN.{length, drop, get_or, drop_of_length-le}
use lib.Seq.{drop-cons}
use Rattle.numbers.specs.Bits.{le_bytes, put_bytes}
use Rattle.numbers.specs.laws.Bits.{length_bytes, put_fits}
use Rattle.numbers.specs.laws.Pick.{says_no, says_yes}
use Rattle.drivers.specs.Text.{joined}
use Rattle.drivers.specs.laws.Text.{put_fits as piece_fits, put_not, put_one, put_joined, put, put_all}
use Rattle.drivers.specs.laws.Writer.{Puts}
use Rattle.drivers.specs.declared.text.Writer.{Writer}
use Rattle.drivers.specs.Fields.{header, field_bytes}
use Rattle.drivers.specs.laws.OneField.{length_field}

-- a piece of so many bytes, by the test of its room
module _ (out : List ℕ) (at : ℕ) (text : List ℕ) (size : ℕ) (long : length text ≡ size) (r : Bool) (e : r ≡ leb (at + size) (length out)) where
  pub no_room : not r ≡ true → (at, out) ≡ put out at text
  no_room h = put_not out at text (omega (arith, long, leb-false (at + size) (length out) (says_no r _ e h)))

  room : not r ≡ false → at + length text ≤ length out
  room h = omega (arith, long, leb-true (at + size) (length out) (says_yes r _ e h))

  -- written in pieces
  pub in_pieces : (texts : List (List ℕ)) (p : ℕ × List ℕ) → not r ≡ false → joined texts ≡ text → p ≡ put_all out at texts → p ≡ put out at text
  in_pieces texts p h j q = put_joined out at texts text p j (room h) q

pub integer_room : (out : List ℕ) (at k : ℕ) (r : Bool) → r ≡ leb (at + k) (length out) → not r ≡ false → at + k ≤ length out
integer_room out at k r e h = leb-true (at + k) (length out) (says_yes r _ e h)

pub integer_put : (out : List ℕ) (at k w : ℕ) (r : Bool) (o : List ℕ) → r ≡ leb (at + k) (length out) → not r ≡ false → o ≡ put_bytes out at k w → (at + k, o) ≡ put out at (le_bytes k w)
integer_put out at k w r o e h p =
    let l = length_bytes k w in
    let f = integer_room out at k r e h in
    (λ i. (at + sym l i, (p ∙ sym (put_fits out at k w f)) i)) ∙ piece_fits out at (le_bytes k w) (omega (arith, l))

-- the pieces of a list from i on: that of the next element and those behind it, and none at the end
module _ {ℓ} {X : Type ℓ} (piece : X → List ℕ) (xs : List X) (i : ℕ) where
  pub pieces_turn : (d : X) (text : List ℕ) → i < length xs → text ≡ piece (get_or xs i d) → ((text ∷ []) ++ map piece (drop (i + 1) xs)) ≡ map piece (drop i xs)
  pieces_turn d text h e = ap (λ (t : List ℕ). t ∷ map piece (drop (i + 1) xs)) e ∙ rw (add-one i) (ap (map piece) (sym (drop-cons xs i d h)))

  pub pieces_done : length xs ≤ i → [] ≡ map piece (drop i xs)
  pieces_done h = ap (map piece) (sym (drop_of_length-le xs h))

-- ---- a field: its header, and its content in pieces

module _ (a : Writer) (tag size : ℕ) (content : List ℕ) (long : length content ≡ size) (r : Bool) (e : r ≡ leb (a.at + (3 + size)) (length a.out.now)) where
  field_long : length (field_bytes (tag, content)) ≡ 3 + size
  field_long = length_field (tag, content) ∙ ap (λ (n : ℕ). 3 + n) long

  pub field_not : not r ≡ true → Puts a a (field_bytes (tag, content) ∷ [])
  field_not h = record { is = put_one _ _ _ _ (no_room a.out.now a.at _ _ field_long r e h); same = refl }

  pub field_put : not r ≡ false → (pieces : List (List ℕ)) → joined pieces ≡ content → {b : Writer} → Puts a b (header tag size ∷ pieces) → Puts a b (field_bytes (tag, content) ∷ [])
  unfolding joined
  field_put h pieces j p =
      let whole : joined (header tag size ∷ pieces) ≡ field_bytes (tag, content) = (λ i. header tag (sym long i) ++ j i) in
      record { is = put_one _ _ _ _ (in_pieces a.out.now a.at _ _ field_long r e (header tag size ∷ pieces) _ h whole p.is); same = p.same }

-- a content of one piece
pub joined_one : (text : List ℕ) → joined (text ∷ []) ≡ text
unfolding joined
joined_one text = append-nil text
