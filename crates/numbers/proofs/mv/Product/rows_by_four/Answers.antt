-- `numbers::mv::rows_by_four` meets its contract. Assumes nothing.
use Rattle.std.proofs.Common.{ap, arith, ◌*◌, ◌+◌, ◌≡◌}
use Rattle.numbers.specs.laws.Arr.{filled_start, filled_four}
use Rattle.numbers.specs.declared.arr.Four.{Four}
use Rattle.numbers.proofs.mv.Product.rows_by_four.Goals as goal

pub loop-k-init : goal.loop-k-init
loop-k-init c = filled_start _ _

pub loop-k-preserved : goal.loop-k-preserved
loop-k-preserved c =
    let l = c.loop-k in
    let e = c.four_rows-four.ensures in
    rw (let q : 4 * (l.k + 1) ≡ 4 * l.k + 4 = omega arith in q)
    (filled_four _ _ l.out (4 * l.k) _ _ _ _ l.invariant (omega arith) (ap (λ (z : Four). z.a) e) (ap (λ (z : Four). z.b) e) (ap (λ (z : Four). z.c) e) (ap (λ (z : Four). z.d) e))
