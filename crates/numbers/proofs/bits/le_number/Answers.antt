-- `numbers::bits::le_number` meets its contract.
use Rattle.std.proofs.Common.{refl, arith, ◌-◌, ◌<◌, get_or}
use Rattle.numbers.proofs.bits.Laws.{read_none, read_turn, read_all}
use Rattle.numbers.proofs.bits.le_number.Goals as goal

pub overflow_mul-w : goal.overflow_mul-w
overflow_mul-w c =
    let l = c.loop-i in
    let a = read_turn _ l.w l.i _ c.requires c.loop-i-test.true l.invariant refl (let h : get_or c.args.bytes.now (l.i - 1) 0 < 256 = omega (arith, c.type_inv.bytes (l.i - 1)) in h) in
    omega (arith, a.1)

pub overflow_add-w : goal.overflow_add-w
overflow_add-w c =
    let l = c.loop-i in
    record { fits = (read_turn _ l.w l.i c.from.result c.requires c.loop-i-test.true l.invariant c.from.ensures (let h : get_or c.args.bytes.now (l.i - 1) 0 < 256 = omega (arith, c.type_inv.bytes (l.i - 1)) in h)).1 }

pub loop-i-preserved : goal.loop-i-preserved
loop-i-preserved c =
    let l = c.loop-i in
    (read_turn _ l.w l.i c.from.result c.requires c.loop-i-test.true l.invariant c.from.ensures (let h : get_or c.args.bytes.now (l.i - 1) 0 < 256 = omega (arith, c.type_inv.bytes (l.i - 1)) in h)).0

pub returns : goal.returns
returns c = read_all _ _ c.loop-i.i c.loop-i-test.false c.loop-i.invariant

pub loop-i-init : goal.loop-i-init
loop-i-init c = read_none _
