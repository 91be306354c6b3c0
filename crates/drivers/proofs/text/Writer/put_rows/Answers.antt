-- `drivers::text::Writer::put_rows` meets its contract. Assumes nothing.
use Prim.Native.Nat.{ℕ, ◌+◌, ◌-◌, ◌*◌}
use mathlib.Core.Path.{◌≡◌, refl, sym, ap, ◌∙◌}
use mathlib.Core.List.{List, [], ◌∷◌, ◌++◌, map, map-append}
use native.Mathlib.Numerals.{add-one}
use native.Mathlib.Omega.{arith}
use lib.ListN.{take, drop}
use lib.Ieee.{Float}
use Rattle.numbers.specs.Arr.{tab}
use Rattle.drivers.specs.Fields.{field_bytes, number_bytes}
use Rattle.drivers.specs.Rules.{row_tag}
use Rattle.drivers.specs.WriteJob.{row_field, row_fields}
use Rattle.drivers.specs.laws.Writer.{puts_none, puts_on, puts_same}
use Rattle.drivers.proofs.text.Writer.put_rows.Goals as goal

module _ (n : ℕ) (table : List Float) where
  none : [] ≡ map field_bytes (row_fields n table 0)
  unfolding tab
  none = refl

  -- row i, as it was lent
  one_more : (i : ℕ)
      → (map field_bytes (row_fields n table i) ++ (field_bytes (row_tag, number_bytes (take (i * n + n - i * n) (drop (i * n) table))) ∷ [])) ≡ map field_bytes (row_fields n table (i + 1))
  unfolding tab
  one_more i =
      let size : i * n + n - i * n ≡ n = omega arith in
      ap (λ (k : ℕ). map field_bytes (row_fields n table i) ++ (field_bytes (row_tag, number_bytes (take k (drop (i * n) table))) ∷ [])) size
      ∙ sym (map-append field_bytes (row_fields n table i) (row_field n table i ∷ []))
      ∙ ap (λ (k : ℕ). map field_bytes (row_fields n table k)) (sym (add-one i))

pub loop-i-init : goal.loop-i-init
loop-i-init c = puts_same (puts_none _) (none c.args.n c.args.table.now)

pub loop-i-preserved : goal.loop-i-preserved
loop-i-preserved c = puts_same (puts_on c.loop-i.invariant c.put_numbers_field.ensures) (one_more c.args.n c.args.table.now c.loop-i.i)
