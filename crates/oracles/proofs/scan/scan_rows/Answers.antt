-- `oracles::scan::scan_rows` meets its contract: the first row, and what is left after it. Assumes nothing.
use mathlib.Core.Path.{refl, sym, ◌∙◌}
use native.Mathlib.Omega.{arith}
use mir.Facts.{to_z-of_z}
use lib.Ieee
use mir.Syntax.{w32}
use borrow.Author.Rules.{rules}
use Rattle.oracles.specs.Scan.{−∞, none}
use Rattle.oracles.proofs.scan.Run.{as_judged}
use Rattle.oracles.proofs.scan.Turn.{starts, empty, start_is, row_there, row_small, left_there, first_in, first_ends, first_goes_on}
use Rattle.oracles.proofs.scan.scan_rows.Goals as goal

pub returns-then-all-eq0 : goal.returns-then-all-eq0
unfolding Ieee.div Ieee.neg Ieee.of_bits
returns-then-all-eq0 c =
    let a = c.args in
    rw (to_z-of_z {w = w32} {z = a.start.cur} (search rules)) (empty c.requires c.band_from.ensures c.band_past.ensures a.lower a.upper c.if-all-eq0.true)

pub row_at-row-requires : goal.row_at-row-requires
unfolding Ieee.of_bits
row_at-row-requires c =
    let a = c.args in
    let R = c.requires in
    row_there a.x.now a.lower _ −∞ none (starts R c.band_from.ensures c.band_past.ensures) (start_is R c.band_from.ensures c.band_past.ensures a.lower a.upper c.unwrap_or-limit.ensures) (omega (arith, c.if-all-eq0.false)) c.step-rr.ensures

pub row_value-value-requires : goal.row_value-value-requires
unfolding Ieee.of_bits
row_value-value-requires c =
    let a = c.args in
    first_in c.requires c.band_from.ensures c.band_past.ensures a.lower a.upper c.unwrap_or-limit.ensures c.if-all-eq0.false c.step-rr.ensures c.row_at-row.ensures

pub test_row-s-requires : goal.test_row-s-requires
unfolding Ieee.of_bits
test_row-s-requires c =
    let a = c.args in
    let R = c.requires in
    row_small a.x.now a.lower _ −∞ none (starts R c.band_from.ensures c.band_past.ensures) (start_is R c.band_from.ensures c.band_past.ensures a.lower a.upper c.unwrap_or-limit.ensures) (omega (arith, c.if-all-eq0.false)) c.step-rr.ensures c.row_at-row.ensures

pub returns-then-is_some : goal.returns-then-is_some
unfolding Ieee.div Ieee.neg Ieee.of_bits
returns-then-is_some c =
    let a = c.args in
    first_ends c.requires c.band_from.ensures c.band_past.ensures a.lower a.upper c.unwrap_or-limit.ensures c.if-all-eq0.false c.step-rr.ensures c.row_at-row.ensures
    (as_judged a.n a.table.now a.x.now a.lower _ −∞ refl c.row_value-value.ensures refl c.test_row-s.ensures) (sym c.is_some.ensures ∙ c.if-is_some.true)

pub scan_rest-requires : goal.scan_rest-requires
unfolding Ieee.of_bits
scan_rest-requires c =
    let a = c.args in
    let R = c.requires in
    left_there a.x.now a.lower _ −∞ none (starts R c.band_from.ensures c.band_past.ensures) (start_is R c.band_from.ensures c.band_past.ensures a.lower a.upper c.unwrap_or-limit.ensures) (omega (arith, c.if-all-eq0.false)) c.step-rr.ensures

pub returns : goal.returns
unfolding Ieee.div Ieee.neg Ieee.of_bits
returns c =
    let a = c.args in
    rw (to_z-of_z {w = w32} {z = c.test_row-s.result.kmax} (search rules)) at c.scan_rest.ensures
    ∙ first_goes_on c.requires c.band_from.ensures c.band_past.ensures a.lower a.upper c.unwrap_or-limit.ensures c.if-all-eq0.false c.step-rr.ensures c.row_at-row.ensures
    (as_judged a.n a.table.now a.x.now a.lower _ −∞ refl c.row_value-value.ensures refl c.test_row-s.ensures) (sym c.is_some.ensures ∙ c.if-is_some.false)
