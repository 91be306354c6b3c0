-- `drivers::text::Writer::put_settings_field` meets its contract. Assumes nothing.
use mathlib.Core.Path.{◌≡◌, refl, ap}
use mathlib.Core.Bool.{not}
use mathlib.Core.List.{[], ◌∷◌, ◌++◌}
use Prim.Native.Nat.{ℕ}
use lib.ListN.{length}
use Rattle.numbers.specs.Bits.{bits_of, le_bytes}
use Rattle.drivers.specs.Text.{joined}
use Rattle.drivers.specs.Rules.{settings_tag}
use Rattle.drivers.specs.WriteJob.{settings_bytes}
use Rattle.drivers.specs.laws.Writer.{puts_on}
use Rattle.drivers.specs.declared.cutting_plane.Options.{Options}
use Rattle.drivers.proofs.text.Puts.{field_not, field_put}
use Rattle.drivers.proofs.text.Writer.put_settings_field.Goals as goal

long : (o : Options) → length (settings_bytes o) ≡ 10
unfolding joined le_bytes
long o = refl

pieces : (o : Options) (w : ℕ) → w ≡ bits_of o.tolerance → joined (le_bytes 2 o.max_iters ∷ le_bytes 8 w ∷ []) ≡ settings_bytes o
unfolding joined
pieces o w e = ap (λ (v : ℕ). le_bytes 2 o.max_iters ++ (le_bytes 8 v ++ [])) e

pub returns-then-not-has_room : goal.returns-then-not-has_room
returns-then-not-has_room c = field_not c.args.self.now settings_tag 10 (settings_bytes c.args.options) (long c.args.options) _ c.has_room.ensures (ap not c.if-not-has_room.true)

pub returns : goal.returns
returns c =
    let o = c.args.options in
    field_put c.args.self.now settings_tag 10 (settings_bytes o) (long o) _ c.has_room.ensures (ap not c.if-not-has_room.false)
    (le_bytes 2 o.max_iters ∷ le_bytes 8 c.to_bits.result ∷ []) (pieces o c.to_bits.result c.to_bits.ensures)
    (puts_on c.put_header.ensures (puts_on c.put_integer.ensures c.put_integer-2.ensures))
