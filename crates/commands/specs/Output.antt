-- What a command writes: all of it goes to one stream. Definitions only.
use Rattle.std.specs.Prelude.{ℕ, List, []}
use Rattle.numbers.specs.declared.refusal.Refusal.{Refusal}
use Rattle.streams.specs.Output.{Hands, HandedOver}
use Rattle.streams.specs.declared.output.Stream.{Stream}
use Rattle.streams.specs.declared.output.Stream.TheVariants.{Stdout, Stderr}
use Rattle.streams.specs.declared.output.Handed.{Handed}
use Rattle.streams.specs.declared.output.Console.{Console}
use Rattle.streams.specs.declared.sink.Sink.{Ghosts}
use Rattle.drivers.specs.Text.{bytes_of}
use Rattle.drivers.specs.Trace.{refused_text}
use Rattle.drivers.specs.declared.trace.Source.{Source}

-- to which stream, and the bytes
abbrev pub Written : Type 0
Written = Stream × List ℕ

-- what is made goes to standard output, a refusal's line to standard error
abbrev pub refusal_written : Source → Refusal → ℕ → Written
refusal_written source why place = (Stderr, refused_text source why place)

abbrev pub nothing_written : Written
nothing_written = (Stdout, [])

abbrev pub usage_written : Written
usage_written = (Stderr, bytes_of "usage: jobfile answer < JOB > ANSWER\n       jobfile belongs JOB ANSWER\n       jobfile file < JOB > NEWJOB\n       jobfile limits LP UP SP < JOB > NEWJOB\nLP, UP, SP: the 16 hexadecimal digits of a float, or - for the job's own\n")

-- handed over by a console, and nothing else
abbrev pub Writes : {W E : Type 0} → Ghosts W → Console W E → Console W E → Written → Type 0
Writes sink before after w = Hands sink before after w.0 w.1

-- handed over by a program, and nothing else
abbrev pub WroteOnly : {W : Type 0} → Ghosts W → W → W → Handed → Written → Type 0
WroteOnly sink held holds handed w = HandedOver sink held holds handed w.0 w.1
