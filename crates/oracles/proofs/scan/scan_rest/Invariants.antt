-- What the loop of `oracles::scan::scan_rest` keeps: at each turn what is left computes the answer.
use mathlib.Core.Path.{◌≡◌}
use Rattle.std.specs.Prelude.{Some}
use Rattle.oracles.specs.Scan.{scan_from}
use Rattle.oracles.specs.laws.ScanRun.{RowsLeft}
use Rattle.oracles.proofs.scan.scan_rest.Given as goal

abbrev pub invariant-loop-left : goal.invariant-loop-left
invariant-loop-left l =
    RowsLeft l.rows.n l.rows.table.now l.rr l.left × (scan_from l.rows.n l.rows.table.now l.rows.x.now l.limits.lower (Some l.limits.limit) l.left l.rr l.fmax l.kmax ≡ scan_from l.rows.n l.rows.table.now l.rows.x.now l.limits.lower (Some l.limits.limit) l.initial.left l.initial.rr l.initial.fmax l.initial.kmax)

abbrev pub decreases-loop-left : goal.decreases-loop-left
decreases-loop-left l = l.left
