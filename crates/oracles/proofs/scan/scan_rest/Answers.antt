-- `oracles::scan::scan_rest` meets its contract. Assumes nothing.
use mathlib.Core.Path.{refl, sym, ap, ◌∙◌}
use Rattle.std.specs.Prelude.{Some}
use native.Mathlib.Omega.{arith}
use borrow.Author.Rules.{rules}
use mir.Syntax.{w32}
use mir.Facts.{to_z-of_z}
use lib.IntN.{ℤ}
use Rattle.oracles.specs.Scan.{scan_from}
use Rattle.oracles.proofs.Signed.{cur_fits}
use Rattle.oracles.proofs.scan.Turn.{clear, row_there, legal_there, row_before_past, rows_small, rows_in, ends, turned}
use Rattle.oracles.proofs.scan.scan_rest.Goals as goal

pub row_at-row-requires : goal.row_at-row-requires
row_at-row-requires c =
    let l = c.loop-left in
    let a = c.args in
    row_there a.rows.x.now a.limits.lower a.limits.limit l.fmax _ l.invariant.0 l.invariant.1 c.loop-left-test.true c.step-rr.ensures

pub band_past-requires : goal.band_past-requires
band_past-requires c =
    let l = c.loop-left in
    let a = c.args in
    legal_there a.rows.x.now a.limits.lower a.limits.limit l.fmax _ l.invariant.0 l.invariant.1 c.loop-left-test.true c.step-rr.ensures

pub overflow_sub-band_past : goal.overflow_sub-band_past
overflow_sub-band_past c =
    let l = c.loop-left in
    let a = c.args in
    omega (arith, row_before_past a.rows.x.now a.limits.lower a.limits.limit l.fmax _ l.invariant.0 l.invariant.1 c.loop-left-test.true c.step-rr.ensures c.row_at-row.ensures c.band_past.ensures)

pub rows_together-many-requires : goal.rows_together-many-requires
rows_together-many-requires c =
    let l = c.loop-left in
    let a = c.args in
    (c.loop-left-test.true, omega (arith, row_before_past a.rows.x.now a.limits.lower a.limits.limit l.fmax _ l.invariant.0 l.invariant.1 c.loop-left-test.true c.step-rr.ensures c.row_at-row.ensures c.band_past.ensures))

pub look_at-s-requires : goal.look_at-s-requires
look_at-s-requires c =
    let l = c.loop-left in
    let a = c.args in
    let m = c.rows_together-many.ensures in (
      m.0,
      rows_small a.rows.x.now a.limits.lower a.limits.limit l.fmax _ l.invariant.0 l.invariant.1 c.loop-left-test.true c.step-rr.ensures c.row_at-row.ensures c.band_past.ensures m.1 m.2,
      rows_in a.rows.x.now a.limits.lower a.limits.limit l.fmax _ l.invariant.0 l.invariant.1 c.loop-left-test.true c.step-rr.ensures c.row_at-row.ensures c.band_past.ensures m.1 m.2,
    )

pub returns-then-is_some : goal.returns-then-is_some
returns-then-is_some c =
    let l = c.loop-left in
    let a = c.args in
    ends a.rows.x.now a.limits.lower a.limits.limit l.fmax _ l.invariant.0 l.invariant.1 c.loop-left-test.true c.step-rr.ensures
    c.row_at-row.ensures c.band_past.ensures c.rows_together-many.ensures.1 c.rows_together-many.ensures.2 c.look_at-s.ensures (sym c.is_some.ensures ∙ c.if-is_some.true)
    ∙ ap (λ (k : ℤ). scan_from a.rows.n a.rows.table.now a.rows.x.now a.limits.lower (Some a.limits.limit) a.count a.start a.peak k) (to_z-of_z c.ranges.peak_row)

pub loop-left-preserved : goal.loop-left-preserved
loop-left-preserved c =
    let l = c.loop-left in
    let a = c.args in
    let w = turned a.rows.x.now a.limits.lower a.limits.limit l.fmax _ l.invariant.0 l.invariant.1 c.loop-left-test.true c.step-rr.ensures
    c.row_at-row.ensures c.band_past.ensures c.rows_together-many.ensures.1 c.rows_together-many.ensures.2 c.look_at-s.ensures (sym c.is_some.ensures ∙ c.if-is_some.false) refl in
    rw (to_z-of_z {w = w32} {z = c.look_at-s.result.last} (search rules), to_z-of_z {w = w32} {z = c.look_at-s.result.kmax} (search rules)) (w.0, w.1)

pub returns : goal.returns
returns c =
    let l = c.loop-left in
    let a = c.args in
    rw (to_z-of_z (cur_fits _ l.invariant.0.legal))
    (clear a.rows.x.now a.limits.lower a.limits.limit l.fmax _ l.invariant.0 l.invariant.1 c.loop-left-test.false
    ∙ ap (λ (k : ℤ). scan_from a.rows.n a.rows.table.now a.rows.x.now a.limits.lower (Some a.limits.limit) a.count a.start a.peak k) (to_z-of_z c.ranges.peak_row))
