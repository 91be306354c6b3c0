-- Records (document 01, "Job and answer records" and "When a call says no"): the fields, and the order of the tests. Definitions only.
use Rattle.std.specs.Prelude.{ℕ, zero, suc, ◌+◌, ◌-◌, ◌*◌, ◌/◌, ◌%◌, Bool, not, ◌&&◌, List, [], ◌∷◌, ◌++◌, leb, ltb, eqb, length, drop, get_or, set, replicate, Float, is_err}
use Rattle.numbers.specs.Pick.{pick, some}
use Rattle.numbers.specs.Bits.{float_of, word_at}
use Rattle.numbers.specs.Arr.{tab}
use Rattle.numbers.specs.Over.{over}
use Rattle.numbers.specs.Refusal.{◌⨾◌, ask_at, Sound, Tests}
use Rattle.numbers.specs.declared.refusal.Refusal.TheVariants.{Dimension, Length, CutShort, ForeignTag, RepeatedTag, MissingTag}
use Rattle.drivers.specs.declared.rules.Form.{Form}
use Rattle.drivers.specs.Rules.{index_of, is_of, row_place, rule_length, tags, optional, repeats}

-- ---- a field: tag, two bytes of length, content; bytes past the end count as 0

abbrev pub byte_at : List ℕ → ℕ → ℕ
byte_at bytes at = word_at bytes at % 256

abbrev pub length_at : List ℕ → ℕ → ℕ
length_at bytes at = word_at bytes at / 256 % 65536

abbrev pub index_at : List ℕ → ℕ → ℕ
index_at bytes at = index_of (byte_at bytes at)

-- whether the content runs past the record's end
abbrev pub overruns : List ℕ → ℕ → Bool
overruns bytes at = ltb (length bytes - at) (3 + length_at bytes at)

-- where the next field begins; the end after a field that is cut short
unfoldable pub after : List ℕ → ℕ → ℕ
after bytes at = pick (overruns bytes at) (length bytes) (at + (3 + length_at bytes at))

-- where the content begins; the end where the header is cut short
abbrev pub content_of : List ℕ → ℕ → ℕ
content_of bytes at = pick (ltb (length bytes - at) 3) (length bytes) (at + 3)

-- the first byte of the field whose content begins at p
abbrev pub start_of : ℕ → ℕ
start_of p = p - 3

-- the two-byte number at p, and the float that is number k of the content that begins there
abbrev pub half_at : List ℕ → ℕ → ℕ
half_at bytes p = word_at bytes p % 65536

unfoldable pub number_at : List ℕ → ℕ → ℕ → Float
number_at bytes p k = float_of (word_at (drop p bytes) (8 * k))

abbrev pub numbers_at : List ℕ → ℕ → ℕ → List Float
numbers_at bytes p count = tab (λ k. number_at bytes p k) count

-- where the fields begin, front to back; `fuel` is at least the count of bytes that are left
unfoldable pub fields_from : ℕ → List ℕ → ℕ → List ℕ
fields_from zero bytes at = []
fields_from (suc fuel) bytes at = pick (ltb at (length bytes)) (at ∷ fields_from fuel bytes (after bytes at)) []

unfoldable pub fields_of : List ℕ → List ℕ
unfolding fields_from
fields_of bytes = fields_from (length bytes) bytes 0

-- ---- the walk

-- where the content of each tag's first field begins, as far as it has been met; 0 for a tag that has not
abbrev pub no_places : List ℕ
no_places = replicate tags 0

abbrev pub place : List ℕ → ℕ → ℕ
place places i = get_or places i 0

abbrev pub is_met : List ℕ → ℕ → Bool
is_met places i = not (eqb (place places i) 0)

-- with one more field, whose content begins at p: the first of its tag stays
abbrev pub first_place : ℕ → ℕ → ℕ
first_place old p = pick (eqb old 0) p old

abbrev pub noted : List ℕ → ℕ → ℕ → List ℕ
noted places i p = set places i (first_place (place places i) p)

-- one field: 7 (header), 8, 9, 7 (content)
unfoldable pub field_fault : List ℕ → Form → List ℕ → ℕ → Tests
field_fault bytes form places at =
    let i = index_at bytes at in
    ask_at at (leb 3 (length bytes - at)) CutShort
    ⨾ ask_at at (is_of form i) ForeignTag
    ⨾ ask_at at (not (is_met places i && not (repeats i))) RepeatedTag
    ⨾ ask_at at (not (overruns bytes at)) CutShort

-- the walk over the fields, with the places that it notes
unfoldable pub walk_of : List ℕ → Form → List ℕ → List ℕ → Tests × List ℕ
walk_of bytes form [] places = (Sound, places)
walk_of bytes form (at ∷ rest) places =
    let f = field_fault bytes form places at in
    pick (is_err f) (f, places) (walk_of bytes form rest (noted places (index_at bytes at) (content_of bytes at)))

-- 10, at the record's length: a tag of the form that must be there has not been met
abbrev pub is_missing : Form → List ℕ → ℕ → Bool
is_missing form places i = is_of form i && not (optional i) && eqb (place places i) 0

unfoldable pub missing_fault : ℕ → Form → List ℕ → Tests
missing_fault end form places = ask_at end (not (some (is_missing form places) 0 tags)) MissingTag

-- the walk, then 10
unfoldable pub record_fault : List ℕ → Form → List ℕ → Tests × List ℕ
record_fault bytes form places =
    let w = walk_of bytes form (fields_of bytes) places in
    (w.0 ⨾ missing_fault (length bytes) form w.1, w.1)

-- a tag that gives a dimension, by its rule and the least value: its own length, then its range
unfoldable pub size_fault : ℕ → ℕ → List ℕ → ℕ → Tests
size_fault rule least bytes p =
    ask_at (start_of p) (eqb (length_at bytes (start_of p)) (rule_length rule 0)) Length
    ⨾ ask_at (start_of p) (leb least (half_at bytes p) && leb (half_at bytes p) 32) Dimension

-- 2: the first field, in record order, whose length is not what n says
unfoldable pub lengths_fault : ℕ → List ℕ → List ℕ → Tests
lengths_fault n bytes [] = Sound
lengths_fault n bytes (at ∷ rest) = ask_at at (eqb (length_at bytes at) (rule_length (index_at bytes at) n)) Length ⨾ lengths_fault n bytes rest

-- ---- rows, in the order of arrival

abbrev pub is_row : List ℕ → ℕ → Bool
is_row bytes at = eqb (index_at bytes at) row_place

abbrev pub rows_in : List ℕ → ℕ → ℕ
rows_in bytes at = pick (is_row bytes at) 1 0

unfoldable pub row_count : List ℕ → List ℕ → ℕ
row_count bytes [] = 0
row_count bytes (at ∷ rest) = rows_in bytes at + row_count bytes rest

unfoldable pub rows_of : ℕ → List ℕ → List ℕ → List Float
rows_of n bytes [] = []
rows_of n bytes (at ∷ rest) = pick (is_row bytes at) (numbers_at bytes (content_of bytes at) n) [] ++ rows_of n bytes rest

-- numbers at the front of a list, whose rest stays
abbrev pub fronted : List Float → List Float → List Float
fronted xs out = over out 0 xs
