-- `ponduvizh::scans::ponduvizh_scan_band` meets its contract. Assumes nothing.
use mir.Facts.{to_z-of_z}
use Rattle.ponduvizh.proofs.scans.Laws.{cursor_handed}
use Rattle.ponduvizh.proofs.scans.ponduvizh_scan_band.Goals as goal

pub returns : goal.returns
returns c =
    let z = c.ranges in
    rw (← cursor_handed _ _ _ _ _ _ c.cursor_at-start.ensures (to_z-of_z z.lo) (to_z-of_z z.hi), ← c.upper_of-limit.ensures) c.scan_from.ensures
