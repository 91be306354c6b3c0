-- What the program `filterrun` prints. Definitions only.
use Rattle.std.specs.Prelude.{List, [], ℕ, Option}
use Rattle.drivers.specs.Program.{program_text}
use Rattle.streams.specs.Input.{ReadInto, of_read}
use Rattle.streams.specs.Output.{HandedOver}
use Rattle.streams.specs.declared.output.Stream.TheVariants.{Stdout}
use Rattle.streams.specs.declared.output.Handed.{Handed}
use Rattle.streams.specs.declared.sink.Sink.{Ghosts}

-- all of the program's text of what was read, and no more; nothing where the input could not be read. Of what was read no contract can say anything
pub record Ran {W : Type 0} (sink : Ghosts W) (held holds : W) (handed : Handed) : Type 0 where
  pub read : Option ℕ
  pub bytes : List ℕ
  pub read_into : ReadInto read bytes
  pub printed : HandedOver sink held holds handed Stdout (of_read read bytes program_text [])
