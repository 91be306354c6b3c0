-- `drivers::answer::outcome_byte` meets its contract. Assumes nothing.
use mathlib.Core.Path.{◌≡◌, refl}
use mathlib.Core.Bool.{Bool, true, false}
use mir.Val.{bool_byte}
use Rattle.numbers.specs.Pick.{pick}
use Rattle.drivers.specs.Answer.{outcome_byte}
use Rattle.drivers.proofs.answer.outcome_byte.Goals as goal

byte_is : (found : Bool) → bool_byte found ≡ outcome_byte found
unfolding pick
byte_is true = refl
byte_is false = refl

pub returns : goal.returns
returns c = byte_is c.args.found
