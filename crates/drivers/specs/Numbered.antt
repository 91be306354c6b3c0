-- Document 01's number of what stops `cutting_plane_optim`, and of its answer. Definitions only.
use Rattle.std.specs.Prelude.{ℕ, Err, Ok, Result}
use Rattle.numbers.specs.Refusal.{refusal_number}
use Rattle.numbers.specs.declared.refusal.Refusal.TheVariants.{NoStopValue}
use Rattle.drivers.specs.declared.answer.Answer.{Answer}
use Rattle.drivers.specs.declared.cutting_plane_optim.OptimStop.{OptimStop}
use Rattle.drivers.specs.declared.cutting_plane_optim.OptimStop.TheVariants.{Halted, Refused}

-- only refusal 6 halts it
abbrev pub stop_number : OptimStop → ℕ
stop_number (Halted a) = refusal_number NoStopValue
stop_number (Refused why) = refusal_number why

abbrev pub optim_number : Result Answer OptimStop → ℕ
optim_number (Ok a) = 0
optim_number (Err stop) = stop_number stop
