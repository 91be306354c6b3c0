-- `drivers::text::Writer::put_shorts` meets its contract. Assumes nothing.
use Prim.Native.Nat.{ℕ}
use mathlib.Core.Path.{◌≡◌, ap, ◌∙◌}
use borrow.Author.Rules.{rules}
use lib.IntN.{ℤ, pos}
use lib.ListN.{get_or}
use mir.Syntax.{w32}
use mir.Val.{SFits, to_z, of_z}
use mir.Facts.{to_z-of_z}
use Rattle.numbers.specs.Bits.{le_bytes}
use Rattle.drivers.specs.Fields.{short_of}
use Rattle.drivers.specs.laws.Writer.{puts_none, puts_on, puts_same}
use Rattle.drivers.proofs.text.Puts.{pieces_turn, pieces_done}
use Rattle.drivers.proofs.text.Writer.put_shorts.Goals as goal

-- the number that the machine reads
word : (z : ℤ) (h : ℕ) → SFits w32 z → h ≡ short_of (to_z w32 (of_z w32 z)) → le_bytes 2 h ≡ le_bytes 2 (short_of z)
word z h f e = ap (le_bytes 2) (e ∙ ap short_of (to_z-of_z f))

pub loop-z-preserved : goal.loop-z-preserved
loop-z-preserved c =
    let zs = c.args.zs.now in
    let i = c.loop-z.z-index in
    λ end h. c.loop-z.invariant end
    (puts_same (puts_on c.put_integer.ensures h) (pieces_turn (λ z. le_bytes 2 (short_of z)) zs i (pos 0) _ (search rules) (word (get_or zs i (pos 0)) _ (search rules) c.short_of.ensures)))

pub loop-z-init : goal.loop-z-init
loop-z-init c = λ end h. h

pub returns : goal.returns
returns c = c.loop-z.invariant _ (puts_same (puts_none _) (pieces_done (λ z. le_bytes 2 (short_of z)) c.args.zs.now c.loop-z.z-index (search rules)))
