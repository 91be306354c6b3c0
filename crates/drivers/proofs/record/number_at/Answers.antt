-- `drivers::record::number_at` meets its contract. Assumes nothing.
use mathlib.Core.Path.{◌≡◌, ap, ◌∙◌}
use mathlib.Core.List.{List}
use Prim.Native.Nat.{ℕ, ◌<◌, ◌*◌, ◌-◌}
use native.Mathlib.Omega.{arith}
use lib.ListN.{length, take, drop, length-drop}
use lib.Seq.{take_all}
use lib.Ieee.{Float}
use Rattle.numbers.specs.Bits.{float_of, word_at}
use Rattle.numbers.specs.laws.Bits.{word_past}
use Rattle.drivers.specs.Record.{number_at}
use Rattle.drivers.proofs.record.number_at.Goals as goal

past : (bytes : List ℕ) (p k : ℕ) → length bytes < p → float_of 0 ≡ number_at bytes p k
unfolding number_at
past bytes p k h = ap float_of (word_past (drop p bytes) (8 * k) (rw (length-drop p bytes) (omega arith)))

read : (bytes : List ℕ) (p k w : ℕ) (r : Float) → w ≡ word_at (take (length bytes - p) (drop p bytes)) (8 * k) → r ≡ float_of w → r ≡ number_at bytes p k
unfolding number_at
read bytes p k w r e f =
    let a : take (length bytes - p) (drop p bytes) ≡ drop p bytes = take_all (length bytes - p) (drop p bytes) (rw (length-drop p bytes) (omega arith)) in
    f ∙ ap float_of (e ∙ rw a)

pub returns-then-bytes-p : goal.returns-then-bytes-p
returns-then-bytes-p c = past _ _ c.args.k c.if-bytes-p.true

pub returns : goal.returns
returns c = read _ _ _ _ _ c.word_at.ensures c.of_bits.ensures
