-- `drivers::write_job::put_job` meets its contract. Assumes nothing.
use Prim.Native.Nat.{ℕ}
use mathlib.Core.Path.{◌≡◌, sym, ap, ◌∙◌}
use mathlib.Core.List.{List, [], ◌∷◌, ◌++◌, map, map-append}
use borrow.Author.Rules.{rules}
use lib.IntN.{ℤ}
use mir.Syntax.{w32}
use mir.Val.{SFits, to_z, of_z}
use mir.Facts.{to_z-of_z}
use Rattle.drivers.specs.Fields.{Field, field_bytes, short_bytes}
use Rattle.drivers.specs.Rules.{bands_tag, cursors_tag}
use Rattle.drivers.specs.WriteJob.{with_numbers, head_fields, row_fields, tail_fields, job_fields}
use Rattle.drivers.specs.laws.Writer.{Puts, puts_on, puts_same}
use Rattle.drivers.proofs.write_job.put_job.Goals as goal

-- three parts of a record
parts : (h r t : List Field) → (map field_bytes h ++ map field_bytes r ++ map field_bytes t) ≡ map field_bytes (h ++ r ++ t)
parts h r t = ap (λ (l : List (List ℕ)). l ++ map field_bytes t) (sym (map-append field_bytes h r)) ∙ sym (map-append field_bytes (h ++ r) t)

-- whole numbers as the machine reads them
as_read : ℤ → ℤ
as_read z = to_z w32 (of_z w32 z)

module _ (tag : ℕ) (a b : ℤ) (p : SFits w32 a) (q : SFits w32 b) where
  two : (field_bytes (tag, short_bytes (as_read a ∷ as_read b ∷ [])) ∷ []) ≡ (field_bytes (tag, short_bytes (a ∷ b ∷ [])) ∷ [])
  unfolding as_read
  two = λ i. field_bytes (tag, short_bytes (to_z-of_z p i ∷ to_z-of_z q i ∷ [])) ∷ []

  three : (d : ℤ) → SFits w32 d → (field_bytes (tag, short_bytes (as_read a ∷ as_read b ∷ as_read d ∷ [])) ∷ []) ≡ (field_bytes (tag, short_bytes (a ∷ b ∷ d ∷ [])) ∷ [])
  unfolding as_read
  three d r = λ i. field_bytes (tag, short_bytes (to_z-of_z p i ∷ to_z-of_z q i ∷ to_z-of_z r i ∷ [])) ∷ []

pub returns : goal.returns
unfolding as_read
returns c =
    let a = c.args in
    let j = a.job in
    let table = a.table.now in
    let x = a.xc.now in
    let m = a.mq.now in
    let b = puts_same c.put_shorts_field.ensures (two bands_tag j.nwpass j.nwstop (search rules) (search rules)) in
    let k = puts_same c.put_shorts_field-2.ensures (three cursors_tag j.cur1 j.cur2 (search rules) (search rules) j.cur3 (search rules)) in
    let head = puts_on (puts_on c.put_integer_field.ensures b) c.put_numbers_field.ensures in
    let tail = puts_on (puts_on (puts_on (puts_on c.put_numbers_field-2.ensures k) c.put_numbers_field-3.ensures) c.put_numbers_field-4.ensures) c.put_settings_field.ensures in
    let all : Puts c.new-record.result c.put_settings_field.new.self (map field_bytes (job_fields (with_numbers j table x m))) =
    puts_same (puts_on (puts_on head c.put_rows.ensures) tail) (parts (head_fields j) (row_fields j.n table j.rows) (tail_fields j x m)) in
    search rules
