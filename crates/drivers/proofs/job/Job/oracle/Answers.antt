-- `drivers::job::Job::oracle` meets its contract. Assumes nothing.
use mathlib.Core.Path.{◌∙◌}
use borrow.Author.Rules.{rules}
use mir.Syntax.{w32}
use mir.Facts.{to_z-of_z}
use Rattle.oracles.specs.laws.Start.{start_same}
use Rattle.drivers.proofs.job.Job.oracle.Goals as goal

pub returns : goal.returns
returns c =
    start_same _ _ _ _ _ _ _ _ _ _ _ _ _ _ _ _ (to_z-of_z {w = w32} (search rules)) (to_z-of_z {w = w32} (search rules))
    (to_z-of_z {w = w32} (search rules) ∙ c.row_end.ensures)
    (to_z-of_z {w = w32} (search rules)) (to_z-of_z {w = w32} (search rules)) (to_z-of_z {w = w32} (search rules)) c.start.ensures
