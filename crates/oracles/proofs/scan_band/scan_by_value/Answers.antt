-- `oracles::scan_band::scan_by_value` meets its contract. Assumes nothing.
use Rattle.std.proofs.Common.{rules, sym, ◌∙◌}
use Rattle.std.proofs.lemmas.Result.{err_from_is_err_and}
use Rattle.oracles.proofs.scan_band.Laws.{found, ready_by, scanned, refused}
use Rattle.oracles.proofs.scan_band.scan_by_value.Goals as goal

pub returns-in_err-first_refusal : goal.returns-in_err-first_refusal
returns-in_err-first_refusal c =
    let a = c.args in
    let p = err_from_is_err_and c.from_residual.result c.from_residual.ensures.1 in
    rw (p.1, p.2)
    (refused a.n a.rows a.table.now a.x.now a.rr a.lower a.upper
    (sym c.in_err-first_refusal.was ∙ found a.n a.rows a.table.now a.x.now a.rr (search rules) (search rules) c.first_refusal.ensures c.is_dimension.ensures c.table_fits-lengths.ensures c.band_fits-bands.ensures c.is_at.ensures))

pub scan_rows-requires : goal.scan_rows-requires
scan_rows-requires c =
    let a = c.args in
    ready_by a.n a.rows a.table.now a.x.now a.rr
    (sym c.in_ok-first_refusal.was ∙ found a.n a.rows a.table.now a.x.now a.rr (search rules) (search rules) c.first_refusal.ensures c.is_dimension.ensures c.table_fits-lengths.ensures c.band_fits-bands.ensures c.is_at.ensures)

pub returns : goal.returns
returns c =
    let a = c.args in
    scanned a.n a.rows a.table.now a.x.now a.rr a.lower a.upper
    (sym c.in_ok-first_refusal.was ∙ found a.n a.rows a.table.now a.x.now a.rr (search rules) (search rules) c.first_refusal.ensures c.is_dimension.ensures c.table_fits-lengths.ensures c.band_fits-bands.ensures c.is_at.ensures)
    c.scan_rows.ensures
