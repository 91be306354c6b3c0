-- `ponduvizh::runs::ponduvizh_cutting_plane_feas` meets its contract. Assumes nothing.
use mir.Facts.{to_z-of_z}
use Rattle.oracles.specs.Ell.{ell_buffers}
use Rattle.ponduvizh.specs.ExportedRuns.{run_numbers}
use Rattle.oracles.specs.laws.Start.{start_same}
use Rattle.ponduvizh.proofs.runs.Laws.{feas_made, feas_not_made}
use Rattle.ponduvizh.proofs.runs.ponduvizh_cutting_plane_feas.Goals as goal

pub returns-in-Err : goal.returns-in-Err
returns-in-Err c =
    let z = c.ranges in
    let a = c.args in
    let p = feas_not_made _ _ _ _ _ _ a.rows a.table.now (run_numbers a.answer.now a.marks.now a.values.now) (ell_buffers a.mq.now a.xc.now a.grad_t.now) a.grad.now a.x_best.now c.new_with_matrix.ensures
    (start_same _ _ _ _ _ _ _ _ _ _ _ _ _ _ _ _ (to_z-of_z z.nwpass) (to_z-of_z z.nwstop) (to_z-of_z z.mdim) (to_z-of_z z.cur1) (to_z-of_z z.cur2) (to_z-of_z z.cur3) c.start-oracle.ensures)
    c.new-options.ensures _ _ c.in-Err.is c.code.ensures in
    record { answer_and_state = p.0; refused_writes_nothing = p.1 }

pub returns-in-Ok : goal.returns-in-Ok
returns-in-Ok c =
    let z = c.ranges in
    let a = c.args in
    let p = feas_made _ _ _ _ _ _ a.rows a.table.now (run_numbers a.answer.now a.marks.now a.values.now) (ell_buffers a.mq.now a.xc.now a.grad_t.now) a.grad.now a.x_best.now c.new_with_matrix.ensures
    (start_same _ _ _ _ _ _ _ _ _ _ _ _ _ _ _ _ (to_z-of_z z.nwpass) (to_z-of_z z.nwstop) (to_z-of_z z.mdim) (to_z-of_z z.cur1) (to_z-of_z z.cur2) (to_z-of_z z.cur3) c.start-oracle.ensures)
    c.new-options.ensures _ _ c.in-Ok.is c.feas_made.ensures in
    record { answer_and_state = p.0; refused_writes_nothing = p.1 }
