-- `oracles::scan_band::scan_band` meets its contract. Assumes nothing.
use Rattle.std.proofs.Common.{rules, sym, ◌∙◌}
use Rattle.std.proofs.lemmas.Result.{err_from_is_err_and}
use mir.Syntax.{w32}
use mir.Facts.{to_z-of_z}
use Rattle.oracles.proofs.scan_band.Laws.{moves, stays}
use Rattle.oracles.proofs.scan_band.scan_band.Goals as goal

pub returns-in_err-found : goal.returns-in_err-found
returns-in_err-found c =
    let a = c.args in
    let p = err_from_is_err_and c.from_residual.result c.from_residual.ensures.1 in
    rw (p.1, p.2) (stays a.n a.rows a.table.now a.x.now a.rr.now a.lower a.upper _ (sym c.in_err-found.was ∙ c.scan_by_value.ensures))

pub returns : goal.returns
returns c =
    let a = c.args in
    rw (to_z-of_z {w = w32} {z = c.in_ok-found.found.last} (search rules))
    (moves a.n a.rows a.table.now a.x.now a.rr.now a.lower a.upper _ (sym c.in_ok-found.was ∙ c.scan_by_value.ensures))
