-- `commands::answer::run_job` meets its contract.
use Rattle.std.proofs.Common.{◌*◌, take, subst, sym, length-take-le, rules}
use Rattle.oracles.specs.Ell.{ell_buffers}
use Rattle.drivers.specs.laws.Job.{n_to}
use Rattle.drivers.specs.laws.JobRuns.{zeros_front}
use Rattle.commands.specs.Output.{Writes}
use Rattle.commands.specs.laws.Answer.{run_written}
use Rattle.commands.specs.laws.Taken.{sound_held}
use Rattle.commands.proofs.answer.run_job.Goals as goal

pub slice_bounds-run_sized-end-2 : goal.slice_bounds-run_sized-end-2
slice_bounds-run_sized-end-2 g c =
    let b = c.args.buffers.now in
    let t = c.args.taken in
    sym (length-take-le (t.job.n * t.job.n) b.mq (sound_held t.job t.sound b.table b.xc b.mq (search rules) (search rules) (search rules)).mq_long)

pub returns : goal.returns
returns g c =
    let t = c.args.taken in
    let j = t.job in
    let b = c.args.buffers.now in
    let n = j.n in
    let z = zeros_front n 32 (n_to j t.sound) in
    subst (Writes g.W.Sink c.args.console.now c.run_sized.new.console)
    (λ i. run_written j (take (j.rows * n) b.table) (ell_buffers (take (n * n) b.mq) (take n b.xc) (z i)) (z i))
    c.run_sized.ensures
