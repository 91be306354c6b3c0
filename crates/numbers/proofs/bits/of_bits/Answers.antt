-- `numbers::bits::of_bits` meets its contract: above the infinity's pattern stand the NaNs'.
use mathlib.Core.Path.{refl, sym, subst}
use mathlib.Core.Bool.{Bool, not}
use lib.Dec.{T}
use lib.Ieee.{div, of_bits}
use Rattle.numbers.proofs.bits.Laws.{above_nan, below_number}
use Rattle.numbers.proofs.bits.of_bits.Goals as goal

pub returns-then-w-gt9218868437227405312 : goal.returns-then-w-gt9218868437227405312
unfolding of_bits div
returns-then-w-gt9218868437227405312 c = above_nan c.args.w c.if-w-gt9218868437227405312.true

pub float_from_bits-result : goal.float_from_bits-result
float_from_bits-result c = subst (λ (b : Bool). T (not b)) (sym (below_number c.args.w c.if-w-gt9218868437227405312.false)) tt

pub returns : goal.returns
returns c = refl
