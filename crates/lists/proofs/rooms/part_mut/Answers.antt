-- `lists::rooms::part_mut` meets its contract.
use Rattle.std.proofs.Common.{◌+◌, ◌-◌, arith}
use Rattle.lists.proofs.rooms.Laws.{part_out, part_in}
use Rattle.lists.proofs.rooms.part_mut.Goals as goal
use Rattle.lists.proofs.rooms.part_mut.Goals.{in_default-via-in-Some+else-len-rest, in_default-via-in_default}

pub returns-in-Some : goal.returns-in-Some
returns-in-Some g c = part_in c.args.s.now c.args.at c.args.len (c.args.at + c.args.len - c.args.at) (omega (arith, c.in-Some.ensures)) (omega arith)

pub returns-in_default : goal.returns-in_default
returns-in_default g c = part_out c.args.s.now c.args.at c.args.len (elim c.in_default.branch [
  | in_default-via-in-Some+else-len-rest w ↦ omega (arith, w.in-Some.ensures)
  | in_default-via-in_default w ↦ omega (arith, w.in_default.ensures)
])
