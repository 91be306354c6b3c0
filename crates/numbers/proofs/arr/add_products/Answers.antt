-- `numbers::arr::add_products` meets its contract. Assumes nothing.
use Rattle.std.proofs.Common.{◌≡◌, ◌+◌, ◌*◌, ◌-◌, ◌/◌, arith}
use Rattle.numbers.proofs.arr.Laws.{sum_again, sum_two, sum_done}
use Rattle.numbers.proofs.arr.add_products.Goals as goal

pub loop-k-preserved : goal.loop-k-preserved
loop-k-preserved c =
    let l = c.loop-k in
    let q : c.args.from + 2 * (l.k + 1) ≡ c.args.from + 2 * l.k + 2 = omega arith in
    rw q
    (sum_two c.args.a.now c.args.b.now l.s (c.args.from + 2 * l.k) l.invariant
    (omega (arith, c.min-common.ensures, c.loop-k-test.true)) (omega (arith, c.min-common.ensures, c.loop-k-test.true)))

pub returns-then-last-common : goal.returns-then-last-common
returns-then-last-common c =
    let l = c.loop-k in
    let e : l.k ≡ (c.min-common.result - c.args.from) / 2 = omega (arith, c.loop-k-test.false, l.auto.k-end) in
    let last = c.args.from + 2 * l.k in
    rw (← e)
    (sum_done c.args.a.now c.args.b.now _ (last + 1)
    (sum_again c.args.a.now c.args.b.now l.s last l.invariant
    (omega (arith, c.min-common.ensures, e, c.if-last-common.true)) (omega (arith, c.min-common.ensures, e, c.if-last-common.true)))
    (omega (arith, c.min-common.ensures, e, c.if-last-common.true)))

pub returns-else-last-common : goal.returns-else-last-common
returns-else-last-common c =
    let l = c.loop-k in
    let e : l.k ≡ (c.min-common.result - c.args.from) / 2 = omega (arith, c.loop-k-test.false, l.auto.k-end) in
    sum_done c.args.a.now c.args.b.now l.s (c.args.from + 2 * l.k) l.invariant (omega (arith, c.min-common.ensures, e, c.if-last-common.false))
