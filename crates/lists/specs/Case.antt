-- What reading a list finds. Definitions only.
use Rattle.std.specs.Prelude.{◌+◌, ◌≤◌, Result, Ok, Err, Option, Some, None}
use Rattle.lists.specs.declared.case.Case.{Case}
use Rattle.lists.specs.declared.case.Damage.{Damage}

-- a case that is given has at most 65,536 words, its operation and its two counts among them
abbrev pub Whole : Result (Option Case) Damage → Type 0
Whole (Ok (Some c)) = c.ins + c.outs + 3 ≤ 65536
Whole (Ok None) = Unit {0}
Whole (Err d) = Unit {0}
