-- What the loop of `drivers::text::Writer::put_rows` keeps: the rows before the next one are put.
use mathlib.Core.List.{map}
use Rattle.drivers.specs.Fields.{field_bytes}
use Rattle.drivers.specs.WriteJob.{row_fields}
use Rattle.drivers.specs.laws.Writer.{Puts}
use Rattle.drivers.proofs.text.Writer.put_rows.Given as goal

abbrev pub invariant-loop-i : goal.invariant-loop-i
invariant-loop-i l = Puts l.initial.self l.self (map field_bytes (row_fields l.n l.table l.i))
