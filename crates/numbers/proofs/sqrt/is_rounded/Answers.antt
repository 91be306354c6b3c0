-- `numbers::sqrt::is_rounded` meets its contract. Assumes nothing.
use mathlib.Core.Path.{◌≡◌, sym}
use mathlib.Core.Bool.{true, false, true≢false}
use native.Mathlib.Omega.{arith}
use Rattle.numbers.proofs.sqrt.Tested.{high_high, high_low, low_low, tested, both}
use Rattle.numbers.proofs.sqrt.is_rounded.Goals as goal

pub overflow_mul-square : goal.overflow_mul-square
overflow_mul-square c = record { fits = omega (arith, high_high c.args.q c.requires.1) }

pub overflow_mul-square-2 : goal.overflow_mul-square-2
overflow_mul-square-2 c = record { fits = omega (arith, high_high c.args.q c.requires.1) }

pub overflow_mul-cross : goal.overflow_mul-cross
overflow_mul-cross c = record { fits = omega (arith, high_low c.args.q c.requires.1) }

pub overflow_mul-right : goal.overflow_mul-right
overflow_mul-right c = record { fits = omega (arith, low_low c.args.q c.requires.1) }

pub overflow_add-right : goal.overflow_add-right
overflow_add-right c = record { fits = omega (arith, low_low c.args.q c.requires.1) }

pub overflow_add-result : goal.overflow_add-result
overflow_add-result c = record { fits = omega (arith, low_low c.args.q c.requires.1) }

pub returns : goal.returns
returns c = both _ _ _ _ (tested c.args.m c.args.q c.if-m-square.false c.if-a-cross.false)

pub returns-then-m-square : goal.returns-then-m-square
returns-then-m-square c = λ (e : false ≡ true). absurd (true≢false (sym e))

pub returns-then-a-gt1073741824 : goal.returns-then-a-gt1073741824
returns-then-a-gt1073741824 c = λ (e : false ≡ true). absurd (true≢false (sym e))

pub returns-then-a-cross : goal.returns-then-a-cross
returns-then-a-cross c = λ (e : false ≡ true). absurd (true≢false (sym e))

pub returns-then-b-gt2147483648 : goal.returns-then-b-gt2147483648
returns-then-b-gt2147483648 c = λ (e : false ≡ true). absurd (true≢false (sym e))
