-- `oracles::scan::look_at_four` meets its contract. Assumes nothing.
use mathlib.Core.Path.{sym, ◌∙◌}
use mir.Syntax.{w32}
use borrow.Author.Rules.{rules}
use mir.Facts.{to_z-of_z}
use Rattle.oracles.proofs.scan.Run.{ends_first, ends_second, ends_third, ends_last}
use Rattle.oracles.proofs.scan.look_at_four.Goals as goal

pub returns-then-is_some : goal.returns-then-is_some
returns-then-is_some c =
    let a = c.args in
    ends_first a.rows.n a.rows.table.now a.rows.x.now a.limits.lower a.limits.limit a.row a.fmax a.kmax c.four_values-values.ensures (to_z-of_z c.ranges.kmax) c.test_row-s.ensures (sym c.is_some.ensures ∙ c.if-is_some.true)

pub returns-then-is_some-2 : goal.returns-then-is_some-2
returns-then-is_some-2 c =
    let a = c.args in
    ends_second a.rows.n a.rows.table.now a.rows.x.now a.limits.lower a.limits.limit a.row a.fmax a.kmax c.four_values-values.ensures (to_z-of_z c.ranges.kmax) c.test_row-s.ensures (sym c.is_some.ensures ∙ c.if-is_some.false)
    (to_z-of_z {w = w32} (search rules)) c.test_row-t.ensures (sym c.is_some-2.ensures ∙ c.if-is_some-2.true)

pub returns-then-is_some-3 : goal.returns-then-is_some-3
returns-then-is_some-3 c =
    let a = c.args in
    ends_third a.rows.n a.rows.table.now a.rows.x.now a.limits.lower a.limits.limit a.row a.fmax a.kmax c.four_values-values.ensures (to_z-of_z c.ranges.kmax) c.test_row-s.ensures (sym c.is_some.ensures ∙ c.if-is_some.false)
    (to_z-of_z {w = w32} (search rules)) c.test_row-t.ensures (sym c.is_some-2.ensures ∙ c.if-is_some-2.false)
    (to_z-of_z {w = w32} (search rules)) c.test_row-u.ensures (sym c.is_some-3.ensures ∙ c.if-is_some-3.true)

pub returns : goal.returns
returns c =
    let a = c.args in
    ends_last a.rows.n a.rows.table.now a.rows.x.now a.limits.lower a.limits.limit a.row a.fmax a.kmax c.four_values-values.ensures (to_z-of_z c.ranges.kmax) c.test_row-s.ensures (sym c.is_some.ensures ∙ c.if-is_some.false)
    (to_z-of_z {w = w32} (search rules)) c.test_row-t.ensures (sym c.is_some-2.ensures ∙ c.if-is_some-2.false)
    (to_z-of_z {w = w32} (search rules)) c.test_row-u.ensures (sym c.is_some-3.ensures ∙ c.if-is_some-3.false)
    (to_z-of_z {w = w32} (search rules)) c.test_row.ensures
