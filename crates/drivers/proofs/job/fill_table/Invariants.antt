-- What the loop of `drivers::job::fill_table` keeps: at each turn the rows so far and those that are left make the table's front.
use Rattle.drivers.specs.laws.Record.{fields_after}
use Rattle.drivers.proofs.job.Filling.{Filling}
use Rattle.drivers.proofs.job.fill_table.Given as goal

abbrev pub invariant-loop-at : goal.invariant-loop-at
invariant-loop-at l = Filling l.bytes l.n l.initial.table (fields_after l.at-iterator.bytes.now l.at-iterator.at) (l.k, l.table)
