-- What the loop of `drivers::text::Writer::put_shorts` keeps: whoever puts the numbers that are left has put all.
use lib.ListN.{drop}
use Rattle.drivers.specs.Fields.{short_pieces}
use Rattle.drivers.specs.laws.Writer.{Puts}
use Rattle.drivers.proofs.text.Writer.put_shorts.Given as goal

abbrev pub invariant-loop-z : goal.invariant-loop-z
invariant-loop-z l = (end : _) → Puts l.self end (short_pieces (drop l.z-index l.zs)) → Puts l.initial.self end (short_pieces l.zs)
