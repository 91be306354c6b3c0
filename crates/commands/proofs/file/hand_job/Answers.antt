-- `commands::file::hand_job` meets its contract.
use Rattle.std.specs.Prelude.{ℕ, ◌≡◌, ◌≤◌, List, length, Ok}
use Rattle.numbers.specs.Over.{over}
use Rattle.std.proofs.Common.{subst, ◌∙◌, rules, arith}
use Rattle.streams.specs.Output.{Hands}
use Rattle.streams.specs.declared.output.Stream.TheVariants.{Stdout}
use Rattle.drivers.specs.laws.Job.{JobSound}
use Rattle.drivers.specs.laws.JobRuns.{FullLong}
use Rattle.drivers.specs.laws.JobBytes.{job_most, write_job_front}
use Rattle.drivers.specs.Job.{FullJob}
use Rattle.drivers.specs.WriteJob.{job_bytes, write_job_answer}
use Rattle.commands.specs.laws.File.{fronts_long}
use Rattle.commands.specs.laws.Front.{record_front, record_made}
use Rattle.commands.proofs.file.hand_job.Goals as goal

-- the longest job fits
written : (f : FullJob) → FullLong f → JobSound f.job → (out : List ℕ) → 273742 ≤ length out → write_job_answer f out ≡ (Ok (length (job_bytes f)), over out 0 (job_bytes f))
written f l h out room = write_job_front f l h out (omega (arith, job_most f l h, room))

pub returns-in-Ok : goal.returns-in-Ok
returns-in-Ok g c =
    let t = c.args.sound in
    let b = c.args.buffers.now in
    let long = fronts_long t.job t.sound b.table b.xc b.mq (search rules) (search rules) (search rules) in
    let front = written _ long t.sound _ (search rules) in
    subst (Hands g.W.Sink c.args.console.now c.hand_front.new.console Stdout)
    (record_front _ _ _ _ (c.write_job-written.ensures ∙ front) _ c.in-Ok.is)
    c.hand_front.ensures

pub returns-in_default : goal.returns-in_default
returns-in_default g c =
    let t = c.args.sound in
    let b = c.args.buffers.now in
    let long = fronts_long t.job t.sound b.table b.xc b.mq (search rules) (search rules) (search rules) in
    let front = written _ long t.sound _ (search rules) in
    absurd (record_made _ _ _ _ (c.write_job-written.ensures ∙ front) _ c.in_default.is)
