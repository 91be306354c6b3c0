-- `drivers::record::rows_in` meets its contract. Assumes nothing.
use mathlib.Core.Path.{◌≡◌, refl, ap, ◌∙◌}
use mathlib.Core.Bool.{Bool, true, false}
use mir.Val.{bool_byte}
use Rattle.numbers.specs.Pick.{pick}
use Rattle.drivers.proofs.record.rows_in.Goals as goal

one_or_none : (t : Bool) → bool_byte t ≡ pick t 1 0
unfolding pick
one_or_none true = refl
one_or_none false = refl

pub returns : goal.returns
returns c = one_or_none c.is_row.result ∙ ap (λ (t : Bool). pick t 1 0) c.is_row.ensures
