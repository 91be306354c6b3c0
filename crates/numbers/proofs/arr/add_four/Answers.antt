-- `numbers::arr::add_four` meets its contract. Assumes nothing.
use Rattle.numbers.proofs.arr.Laws.{sum_again, sum_done}
use borrow.Author.Rules.{rules}
use Rattle.numbers.proofs.arr.add_four.Goals as goal

pub loop-j-preserved : goal.loop-j-preserved
loop-j-preserved c =
    let a = c.args in
    let l = c.loop-j in (
      sum_again a.a.now a.x.now l.s l.j l.invariant.0 (search rules) (search rules),
      sum_again a.b.now a.x.now l.t l.j l.invariant.1 (search rules) (search rules),
      sum_again a.c.now a.x.now l.u l.j l.invariant.2 (search rules) (search rules),
      sum_again a.d.now a.x.now l.v l.j l.invariant.3 (search rules) (search rules),
    )

pub returns : goal.returns
returns c =
    let a = c.args in
    let l = c.loop-j in
    let p = sum_done a.a.now a.x.now l.s l.j l.invariant.0 (search rules) in
    let q = sum_done a.b.now a.x.now l.t l.j l.invariant.1 (search rules) in
    let u = sum_done a.c.now a.x.now l.u l.j l.invariant.2 (search rules) in
    let w = sum_done a.d.now a.x.now l.v l.j l.invariant.3 (search rules) in
    λ i. record { a = p i; b = q i; c = u i; d = w i }
