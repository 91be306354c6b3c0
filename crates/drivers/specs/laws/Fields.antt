-- What stands where in a record that was written as a list of fields, and what the walk makes of it: folds over that list. Assumes nothing.
use Prim.Native.Nat.{ℕ, zero, suc, ◌+◌, ◌-◌, ◌*◌, ◌≤◌, ◌<◌}
use Rattle.std.specs.Prelude.{◌≡◌, Bool, false, ◌&&◌, leb, drop, set, Float, is_err, Err}
use Rattle.std.proofs.Math.Path.{refl, ap}
use Rattle.std.proofs.Common.{sym, subst, ◌∙◌, true≢false, add-zero, zero-add, arith, le-leb, eq-eqb, ne_eqb, eqb-true, length-append}
use Rattle.std.proofs.Math.Bool.{true, not}
use mathlib.Core.List.{List, [], ◌∷◌, ◌++◌, map, append_assoc, map-append}
use Rattle.std.proofs.lemmas.Bool.{not-true}
use Rattle.std.proofs.Math.Dec.{eqb}
use Rattle.std.proofs.Math.ListN.{length, length-drop}
use Rattle.std.proofs.lemmas.List.{set-get_or, get_or-set_same}
use Rattle.std.proofs.Math.Seq.{drop_at}
use Rattle.numbers.specs.Pick.{pick}
use Rattle.numbers.specs.Arr.{tab}
use Rattle.numbers.specs.laws.Pick.{is_hit, is_skip, pick_cong}
use Rattle.numbers.specs.Refusal.{◌⨾◌, ask_at, Sound, Tests}
use Rattle.numbers.specs.declared.refusal.Refusal.TheVariants.{Length, CutShort, ForeignTag, RepeatedTag}
use Rattle.drivers.specs.declared.rules.Form.{Form}
use Rattle.drivers.specs.Text.{joined}
use Rattle.drivers.specs.laws.Text.{joined_append}
use Rattle.drivers.specs.Record.{index_at, overruns, content_of, numbers_at, fields_of, place, is_met, first_place, noted, field_fault, walk_of, missing_fault, record_fault, lengths_fault, row_count, rows_of}
use Rattle.drivers.specs.laws.Record.{fields_after, fields_start, fields_turn, fields_end}
use Rattle.drivers.specs.Fields.{Field, field_bytes, record_bytes}
use Rattle.drivers.specs.Rules.{is_of, repeats, index_of, rule_length, row_place}
use Rattle.drivers.specs.laws.OneField.{length_field, Writable, stands, not_over, content_at, index_is, after_is, numbers_are, size_row}

-- ---- folds over a list of fields, of which the first begins at `at`

-- what holds of each
unfoldable pub Each : (Field → Type 0) → List Field → Type 0
Each P [] = Unit {0}
Each P (f ∷ fs) = P f × Each P fs

pub each_append : (P : Field → Type 0) (fs gs : List Field) → Each P fs → Each P gs → Each P (fs ++ gs)
unfolding Each
each_append P [] gs h k = k
each_append P (f ∷ fs) gs h k = (h.0, each_append P fs gs h.1 k)

pub each_mid : (P : Field → Type 0) (fs : List Field) (f : Field) (gs : List Field) → Each P (fs ++ f ∷ gs) → P f
unfolding Each
each_mid P [] f gs h = h.0
each_mid P (e ∷ fs) f gs h = each_mid P fs f gs h.1

pub each_tab : (P : Field → Type 0) (field : ℕ → Field) (n : ℕ) → ((i : ℕ) → i < n → P (field i)) → Each P (tab field n)
unfolding Each tab
each_tab P field zero h = tt
each_tab P field (suc n) h = each_append P (tab field n) (field n ∷ []) (each_tab P field n (λ i l. h i (omega arith))) (h n (omega arith), tt)

-- where the next field begins
abbrev pub past : ℕ → Field → ℕ
past at f = at + (3 + length f.1)

-- where each begins
unfoldable pub starts : ℕ → List Field → List ℕ
starts at [] = []
starts at (f ∷ fs) = at ∷ starts (past at f) fs

-- the walk, by the tags alone: 8, 9, and where the contents begin
abbrev pub tag_fault : Form → List ℕ → ℕ → ℕ → Tests
tag_fault form places at i = ask_at at (is_of form i) ForeignTag ⨾ ask_at at (not (is_met places i && not (repeats i))) RepeatedTag

unfoldable pub walk_tags : Form → ℕ → List Field → List ℕ → Tests × List ℕ
walk_tags form at [] places = (Sound, places)
walk_tags form at (f ∷ fs) places =
    let i = index_of f.0 in
    let g = tag_fault form places at i in
    pick (is_err g) (g, places) (walk_tags form (past at f) fs (noted places i (at + 3)))

-- the lengths, by tags and lengths alone
abbrev pub is_sized : ℕ → Field → Bool
is_sized n f = eqb (length f.1) (rule_length (index_of f.0) n)

unfoldable pub sizes_fault : ℕ → ℕ → List Field → Tests
sizes_fault n at [] = Sound
sizes_fault n at (f ∷ fs) = ask_at at (is_sized n f) Length ⨾ sizes_fault n (past at f) fs

abbrev pub Sized : ℕ → Field → Type 0
Sized n f = length f.1 ≡ rule_length (index_of f.0) n

pub sizes_sound : (n : ℕ) (fs : List Field) (at : ℕ) → Each (Sized n) fs → sizes_fault n at fs ≡ Sound
unfolding sizes_fault Each pick
sizes_sound n [] at h = refl
sizes_sound n (f ∷ fs) at h = rw (eq-eqb (length f.1) (rule_length (index_of f.0) n) h.0) (sizes_sound n fs (past at f) h.1)

-- the rows
abbrev pub is_row_field : Field → Bool
is_row_field f = eqb (index_of f.0) row_place

unfoldable pub count_rows : List Field → ℕ
count_rows [] = 0
count_rows (f ∷ fs) = pick (is_row_field f) 1 0 + count_rows fs

unfoldable pub all_rows : ℕ → List Field → List Float
all_rows n [] = []
all_rows n (f ∷ fs) = pick (is_row_field f) (numbers_at f.1 0 n) [] ++ all_rows n fs

-- of some fields and then others
pub count_append : (fs gs : List Field) → count_rows (fs ++ gs) ≡ count_rows fs + count_rows gs
unfolding count_rows
count_append [] gs = sym (zero-add (count_rows gs))
count_append (f ∷ fs) gs = omega (arith, count_append fs gs)

pub rows_append : (n : ℕ) (fs gs : List Field) → all_rows n (fs ++ gs) ≡ all_rows n fs ++ all_rows n gs
unfolding all_rows
rows_append n [] gs = refl
rows_append n (f ∷ fs) gs =
    let row = pick (is_row_field f) (numbers_at f.1 0 n) [] in
    ap (λ (l : List Float). row ++ l) (rows_append n fs gs) ∙ sym (append_assoc row (all_rows n fs) (all_rows n gs))

-- ---- the walk over some fields and then others, and over fields of one tag that may repeat

pub first_sound : (g : Tests) (places : List ℕ) (r : Tests × List ℕ) (places' : List ℕ) → pick (is_err g) (g, places) r ≡ (Sound, places') → is_err g ≡ false
first_sound Sound places r places' e = refl
first_sound (Err fault) places r places' e = absurd (true≢false (ap (λ (z : Tests × List ℕ). is_err z.0) (sym (is_hit true (Err fault, places) r refl) ∙ e)))

pub walk_on : (form : Form) (fs gs : List Field) (at : ℕ) (places places' : List ℕ) → walk_tags form at fs places ≡ (Sound, places')
    → walk_tags form at (fs ++ gs) places ≡ walk_tags form (at + length (record_bytes fs)) gs places'
unfolding walk_tags joined
walk_on form [] gs at places places' e = (λ i. walk_tags form (sym (add-zero at) i) gs (e i).1)
walk_on form (f ∷ fs) gs at places places' e =
    let g = tag_fault form places at (index_of f.0) in
    let n : past at f + length (record_bytes fs) ≡ at + length (record_bytes (f ∷ fs)) = omega (arith, length-append (field_bytes f) (record_bytes fs), length_field f) in
    let t = first_sound g places (walk_tags form (past at f) fs (noted places (index_of f.0) (at + 3))) places' e in
    is_skip (is_err g) (g, places) _ t ∙ walk_on form fs gs (past at f) (noted places (index_of f.0) (at + 3)) places' (sym (is_skip (is_err g) (g, places) _ t) ∙ e)
    ∙ ap (λ (k : ℕ). walk_tags form k gs places') n

pub noted_met : (places : List ℕ) (i p : ℕ) → is_met places i ≡ true → noted places i p ≡ places
noted_met places i p h = ap (set places i) (is_skip _ _ _ (not-true _ h)) ∙ set-get_or places i 0

-- all of them have one tag
abbrev pub AllOf : ℕ → List Field → Type 0
AllOf i fs = Each (λ f. index_of f.0 ≡ i) fs

-- one more that may repeat
walk_repeat : (form : Form) (i : ℕ) (f : Field) (fs : List Field) (at : ℕ) (places : List ℕ) → is_of form i ≡ true → repeats i ≡ true → index_of f.0 ≡ i
    → walk_tags form at (f ∷ fs) places ≡ walk_tags form (past at f) fs (noted places i (at + 3))
unfolding walk_tags
walk_repeat form i f fs at places o r e =
    is_skip _ _ _ (ap is_err (ap (tag_fault form places at) e ∙ sound)) ∙ ap (λ (k : ℕ). walk_tags form (past at f) fs (noted places k (at + 3))) e
  where
    not_and : (b : Bool) → not (b && false) ≡ true
    not_and true = refl
    not_and false = refl

    sound : tag_fault form places at i ≡ Sound
    sound = is_skip _ _ _ (ap is_err (is_hit _ _ _ o)) ∙ is_hit _ _ _ (ap (λ (b : Bool). not (is_met places i && not b)) r ∙ not_and (is_met places i))

pub walk_many : (form : Form) (i : ℕ) (fs : List Field) (at : ℕ) (places : List ℕ) → is_of form i ≡ true → repeats i ≡ true → is_met places i ≡ true → AllOf i fs
    → walk_tags form at fs places ≡ (Sound, places)
unfolding walk_tags Each
walk_many form i [] at places o r m h = refl
walk_many form i (f ∷ fs) at places o r m h =
    walk_repeat form i f fs at places o r h.0 ∙ ap (walk_tags form (past at f) fs) (noted_met places i (at + 3) m) ∙ walk_many form i fs (past at f) places o r m h.1

-- and from the first of them on
pub walk_all : (form : Form) (i : ℕ) (fs : List Field) (at : ℕ) (places : List ℕ) → is_of form i ≡ true → repeats i ≡ true → i < length places → place places i ≡ 0 → AllOf i fs → 1 ≤ length fs
    → walk_tags form at fs places ≡ (Sound, noted places i (at + 3))
unfolding Each
walk_all form i [] at places o r b z h l = absurd (omega (arith, l))
walk_all form i (f ∷ fs) at places o r b z h l =
    let p = noted places i (at + 3) in
    let first : place p i ≡ at + 3 = get_or-set_same places i (first_place (place places i) (at + 3)) 0 b ∙ is_hit _ _ _ (eq-eqb (place places i) 0 z) in
    let m : is_met p i ≡ true = ap not (ne_eqb (place p i) 0 (λ (e : place p i ≡ 0). omega (arith, first, e))) in
    walk_repeat form i f fs at places o r h.0 ∙ walk_many form i fs (past at f) p o r m h.1

-- ---- and what is read in a record whose bytes from `at` on are theirs

field_sound : (form : Form) (places : List ℕ) (at i : ℕ) (a b : Bool) → a ≡ true → b ≡ false
    → (ask_at at a CutShort ⨾ ask_at at (is_of form i) ForeignTag ⨾ ask_at at (not (is_met places i && not (repeats i))) RepeatedTag ⨾ ask_at at (not b) CutShort) ≡ tag_fault form places at i
unfolding pick
field_sound form places at i a b e h = rw (e, h, last_sound (ask_at at (not (is_met places i && not (repeats i))) RepeatedTag))
  where
    last_sound : (f : Tests) → (f ⨾ Sound) ≡ f
    last_sound Sound = refl
    last_sound (Err fault) = refl

module _ (bytes : List ℕ) where
  fields_are : (fs : List Field) (at : ℕ) → Each Writable fs → drop at bytes ≡ record_bytes fs → fields_after bytes at ≡ starts at fs
  unfolding joined Each starts
  fields_are [] at w e = fields_end bytes at (omega (arith, length-drop at bytes, ap length e))
  fields_are (f ∷ fs) at w e =
      let s = stands bytes at f (record_bytes fs) w.0 e in
      fields_turn bytes at (omega (arith, s.whole)) ∙ ap (λ (k : ℕ). at ∷ fields_after bytes k) (after_is bytes s) ∙ ap (λ (l : List ℕ). at ∷ l) (fields_are fs (past at f) w.1 s.next_is)

  walk_is : (form : Form) (fs : List Field) (at : ℕ) (places : List ℕ) → Each Writable fs → drop at bytes ≡ record_bytes fs
      → walk_of bytes form (starts at fs) places ≡ walk_tags form at fs places
  unfolding joined Each starts walk_of walk_tags field_fault
  walk_is form [] at places w e = refl
  walk_is form (f ∷ fs) at places w e =
      let s = stands bytes at f (record_bytes fs) w.0 e in
      let i = index_of f.0 in
      let fault = ap (λ (k : ℕ). field_fault_of k) (index_is bytes s) ∙ field_sound form places at i _ _ (le-leb 3 (length bytes - at) (omega (arith, s.whole))) (not_over bytes s) in
      ap (λ (g : Tests). pick (is_err g) (g, places) (walk_of bytes form (starts (past at f) fs) (noted places (index_at bytes at) (content_of bytes at)))) fault
      ∙ ap (λ (r : Tests × List ℕ). pick (is_err (tag_fault form places at i)) (tag_fault form places at i, places) r)
      ((λ j. walk_of bytes form (starts (past at f) fs) (noted places (index_is bytes s j) (content_at bytes s j))) ∙ walk_is form fs (past at f) (noted places i (at + 3)) w.1 s.next_is)
    where
      field_fault_of : ℕ → Tests
      field_fault_of k = ask_at at (leb 3 (length bytes - at)) CutShort ⨾ ask_at at (is_of form k) ForeignTag ⨾ ask_at at (not (is_met places k && not (repeats k))) RepeatedTag ⨾ ask_at at (not (overruns bytes at)) CutShort

  lengths_are : (n : ℕ) (fs : List Field) (at : ℕ) → Each Writable fs → drop at bytes ≡ record_bytes fs → lengths_fault n bytes (starts at fs) ≡ sizes_fault n at fs
  unfolding joined Each starts lengths_fault sizes_fault
  lengths_are n [] at w e = refl
  lengths_are n (f ∷ fs) at w e =
      let s = stands bytes at f (record_bytes fs) w.0 e in
      (λ j. ask_at at (eqb (s.length_is j) (rule_length (index_is bytes s j) n)) Length ⨾ lengths_are n fs (past at f) w.1 s.next_is j)

  rows_are : (n : ℕ) (fs : List Field) (at : ℕ) → Each Writable fs → Each (Sized n) fs → drop at bytes ≡ record_bytes fs
      → (row_count bytes (starts at fs) ≡ count_rows fs) × (rows_of n bytes (starts at fs) ≡ all_rows n fs)
  unfolding joined Each starts row_count rows_of count_rows all_rows
  rows_are n [] at w z e = (refl, refl)
  rows_are n (f ∷ fs) at w z e =
      let s = stands bytes at f (record_bytes fs) w.0 e in
      let r = rows_are n fs (past at f) w.1 z.1 s.next_is in
      let numbers : is_row_field f ≡ true → numbers_at bytes (content_of bytes at) n ≡ numbers_at f.1 0 n =
      λ t. ap (λ (p : ℕ). numbers_at bytes p n) (content_at bytes s) ∙ numbers_are bytes s n (omega (arith, z.0, row_size n f.0 t)) in (
        (λ j. pick (eqb (index_is bytes s j) row_place) 1 0 + r.0 j),
        ap (λ (i : ℕ). pick (eqb i row_place) (numbers_at bytes (content_of bytes at) n) [] ++ rows_of n bytes (starts (past at f) fs)) (index_is bytes s)
            ∙ (λ j. pick_cong (is_row_field f) {b = []} numbers (λ _. refl) j ++ r.1 j),
      )
    where
      row_size : (n tag : ℕ) → eqb (index_of tag) row_place ≡ true → rule_length (index_of tag) n ≡ 8 * n
      row_size n tag t = ap (λ (i : ℕ). rule_length i n) (eqb-true (index_of tag) row_place t) ∙ size_row n

-- ---- the laws of a written record

module _ (fs : List Field) (w : Each Writable fs) where
  abbrev bytes : List ℕ
  bytes = record_bytes fs

  pub fields_written : fields_of bytes ≡ starts 0 fs
  fields_written = sym (fields_start bytes) ∙ fields_are bytes fs 0 w refl

  pub walk_written : (form : Form) (places : List ℕ) → walk_of bytes form (fields_of bytes) places ≡ walk_tags form 0 fs places
  walk_written form places = ap (λ (l : List ℕ). walk_of bytes form l places) fields_written ∙ walk_is bytes form fs 0 places w refl

  pub record_written : (form : Form) (places places' : List ℕ) → walk_tags form 0 fs places ≡ (Sound, places') → record_fault bytes form places ≡ (missing_fault (length bytes) form places', places')
  unfolding record_fault pick
  record_written form places places' e =
      ap (λ (r : Tests × List ℕ). (r.0 ⨾ missing_fault (length bytes) form r.1, r.1)) (walk_written form places ∙ e)

  pub lengths_written : (n : ℕ) → lengths_fault n bytes (fields_of bytes) ≡ sizes_fault n 0 fs
  lengths_written n = ap (lengths_fault n bytes) fields_written ∙ lengths_are bytes n fs 0 w refl

  pub rows_written : (n : ℕ) → Each (Sized n) fs → (row_count bytes (fields_of bytes) ≡ count_rows fs) × (rows_of n bytes (fields_of bytes) ≡ all_rows n fs)
  rows_written n z = subst (λ (l : List ℕ). (row_count bytes l ≡ count_rows fs) × (rows_of n bytes l ≡ all_rows n fs)) (sym fields_written) (rows_are bytes n fs 0 w z refl)

-- some fields, and then others
pub record_append : (fs gs : List Field) → record_bytes (fs ++ gs) ≡ record_bytes fs ++ record_bytes gs
record_append fs gs = ap joined (map-append field_bytes fs gs) ∙ joined_append (map field_bytes fs) (map field_bytes gs)

-- how many bytes they have: a header each, and their contents
unfoldable pub total : List Field → ℕ
total [] = 0
total (f ∷ fs) = 3 + length f.1 + total fs

pub length_record : (fs : List Field) → length (record_bytes fs) ≡ total fs
unfolding joined total
length_record [] = refl
length_record (f ∷ fs) = length-append (field_bytes f) (record_bytes fs) ∙ omega (arith, length_field f, length_record fs)

pub total_append : (fs gs : List Field) → total (fs ++ gs) ≡ total fs + total gs
total_append fs gs =
    sym (length_record (fs ++ gs)) ∙ ap length (record_append fs gs) ∙ length-append (record_bytes fs) (record_bytes gs) ∙ (λ i. length_record fs i + length_record gs i)

-- a field that has others before and behind it
pub field_written : (fs : List Field) (f : Field) (gs : List Field) → drop (length (record_bytes fs)) (record_bytes (fs ++ f ∷ gs)) ≡ field_bytes f ++ record_bytes gs
unfolding joined
field_written fs f gs = ap (drop (length (record_bytes fs))) (record_append fs (f ∷ gs)) ∙ drop_at (record_bytes fs) (record_bytes (f ∷ gs)) (length (record_bytes fs)) refl
