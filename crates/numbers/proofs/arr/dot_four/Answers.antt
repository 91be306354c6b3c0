-- `numbers::arr::dot_four` meets its contract. Assumes nothing.
use native.Mathlib.Omega.{arith}
use Rattle.numbers.proofs.arr.Laws.{rows_fit, four_on}
use Rattle.numbers.proofs.arr.dot_four.Goals as goal

pub bounds-x-0 : goal.bounds-x-0
bounds-x-0 c =
    let a = c.args in
    let h = rows_fit a.a.now a.b.now a.c.now a.d.now a.x.now c.if-n-a.true in
    omega (arith, h.0)

pub bounds-a-0 : goal.bounds-a-0
bounds-a-0 c =
    let a = c.args in
    let h = rows_fit a.a.now a.b.now a.c.now a.d.now a.x.now c.if-n-a.true in
    omega (arith, h.0, h.1)

pub bounds-b-0 : goal.bounds-b-0
bounds-b-0 c =
    let a = c.args in
    let h = rows_fit a.a.now a.b.now a.c.now a.d.now a.x.now c.if-n-a.true in
    omega (arith, h.0, h.2)

pub bounds-c-0 : goal.bounds-c-0
bounds-c-0 c =
    let a = c.args in
    let h = rows_fit a.a.now a.b.now a.c.now a.d.now a.x.now c.if-n-a.true in
    omega (arith, h.0, h.3)

pub bounds-d-0 : goal.bounds-d-0
bounds-d-0 c =
    let a = c.args in
    let h = rows_fit a.a.now a.b.now a.c.now a.d.now a.x.now c.if-n-a.true in
    omega (arith, h.0, h.4)

pub add_four-requires : goal.add_four-requires
add_four-requires c =
    let a = c.args in
    let h = rows_fit a.a.now a.b.now a.c.now a.d.now a.x.now c.if-n-a.true in
    (h.1, h.2, h.3, h.4)

pub returns-then-n-a : goal.returns-then-n-a
returns-then-n-a c =
    let a = c.args in
    four_on a.a.now a.b.now a.c.now a.d.now a.x.now (rows_fit a.a.now a.b.now a.c.now a.d.now a.x.now c.if-n-a.true) c.add_four.ensures

pub returns : goal.returns
returns c = λ i. record { a = c.dot_zip.ensures i; b = c.dot_zip-2.ensures i; c = c.dot_zip-3.ensures i; d = c.dot_zip-4.ensures i }
