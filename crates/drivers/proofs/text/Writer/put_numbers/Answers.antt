-- `drivers::text::Writer::put_numbers` meets its contract. Assumes nothing.
use mathlib.Core.Path.{ap}
use borrow.Author.Rules.{rules}
use lib.Ieee.{nan}
use Rattle.numbers.specs.Bits.{bits_of, le_bytes}
use Rattle.drivers.specs.laws.Writer.{puts_none, puts_on, puts_same}
use Rattle.drivers.proofs.text.Puts.{pieces_turn, pieces_done}
use Rattle.drivers.proofs.text.Writer.put_numbers.Goals as goal

pub loop-x-preserved : goal.loop-x-preserved
loop-x-preserved c =
    λ end h. c.loop-x.invariant end
    (puts_same (puts_on c.put_integer.ensures h) (pieces_turn (λ x. le_bytes 8 (bits_of x)) c.args.xs.now c.loop-x.x-index nan _ (search rules) (ap (le_bytes 8) c.to_bits.ensures)))

pub loop-x-init : goal.loop-x-init
loop-x-init c = λ end h. h

pub returns : goal.returns
returns c = c.loop-x.invariant _ (puts_same (puts_none _) (pieces_done (λ x. le_bytes 8 (bits_of x)) c.args.xs.now c.loop-x.x-index (search rules)))
