-- `drivers::record::whole_numbers_into` meets its contract. Assumes nothing.
use mathlib.Core.Path.{◌≡◌, refl, ap, ◌∙◌}
use mathlib.Core.List.{List}
use Prim.Native.Nat.{ℕ, ◌+◌, ◌*◌, ◌-◌}
use native.Mathlib.Omega.{arith}
use lib.ListN.{take, drop}
use lib.Seq.{drop-drop, take-take}
use lib.Ieee.{Float}
use Rattle.numbers.specs.Bits.{float_of, word_at}
use Rattle.numbers.specs.laws.Arr.{filled_start, filled_turn, filled_done}
use Rattle.drivers.specs.Record.{number_at}
use borrow.Author.Rules.{rules}
use Rattle.drivers.proofs.record.whole_numbers_into.Goals as goal

-- the eight bytes of number k
read : (bytes : List ℕ) (p k at end w : ℕ) (r : Float) → at ≡ p + 8 * k → end ≡ at + 8 → w ≡ word_at (take (end - at) (drop at bytes)) 0 → r ≡ float_of w → r ≡ number_at bytes p k
unfolding number_at word_at
read bytes p k at end w r a b e f =
    let m : end - at ≡ 8 = omega arith in
    f ∙ ap float_of (e ∙ rw (m, take-take 8 8 (drop at bytes) (omega arith), drop-drop (8 * k) p bytes, a))

pub loop-k-init : goal.loop-k-init
loop-k-init c = filled_start _ _

pub loop-k-preserved : goal.loop-k-preserved
loop-k-preserved c =
    let l = c.loop-k in
    filled_turn _ _ l.out l.k _ l.invariant (search rules) (read _ _ _ _ _ _ _ refl refl c.word_at.ensures c.of_bits.ensures)

pub returns : goal.returns
returns c =
    let l = c.loop-k in
    filled_done _ _ l.out l.k l.invariant (search rules)
