-- What the loop of `commands::arguments::hex_value` keeps: the number of the digits passed.
use Rattle.commands.specs.laws.Arguments.{HexRead}
use Rattle.commands.proofs.arguments.hex_value.Given as goal

abbrev pub invariant-loop-i : goal.invariant-loop-i
invariant-loop-i l = HexRead l.word l.value l.i
