-- What the loop of `drivers::text::Writer::put_numbers` keeps: whoever puts the numbers that are left has put all.
use lib.ListN.{drop}
use Rattle.drivers.specs.Fields.{number_pieces}
use Rattle.drivers.specs.laws.Writer.{Puts}
use Rattle.drivers.proofs.text.Writer.put_numbers.Given as goal

abbrev pub invariant-loop-x : goal.invariant-loop-x
invariant-loop-x l = (end : _) → Puts l.self end (number_pieces (drop l.x-index l.xs)) → Puts l.initial.self end (number_pieces l.xs)
