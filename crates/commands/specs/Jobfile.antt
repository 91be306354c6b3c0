-- What the program `jobfile` writes. Of its arguments and of what was read no contract can say anything. Definitions only.
use Rattle.std.specs.Prelude.{List, ℕ, Option}
use Rattle.streams.specs.Input.{ReadInto, of_read}
use Rattle.streams.specs.declared.output.Handed.{Handed}
use Rattle.streams.specs.declared.sink.Sink.{Ghosts}
use Rattle.commands.specs.Arguments.{command_of}
use Rattle.commands.specs.Output.{Written, nothing_written, usage_written, WroteOnly}
use Rattle.commands.specs.Answer.{answer_written}
use Rattle.commands.specs.Belongs.{belongs_written}
use Rattle.commands.specs.File.{file_written}
use Rattle.commands.specs.declared.arguments.Limits.{Limits}
use Rattle.commands.specs.declared.arguments.Command.{Command}
use Rattle.commands.specs.declared.arguments.Command.TheVariants.{Answer, Belongs, File, Usage}

-- what a command writes of what was read of its inputs; nothing where one could not be read
pub data Wrote : Command → Written → Type 0 where
  answered : (read : Option ℕ) (bytes : List ℕ) → ReadInto read bytes → Wrote Answer (of_read read bytes answer_written nothing_written)
  judged : (read : Option ℕ) (bytes : List ℕ) → ReadInto read bytes → (read' : Option ℕ) (bytes' : List ℕ) → ReadInto read' bytes'
      → Wrote Belongs (of_read read bytes (λ job. belongs_written job read' bytes') nothing_written)
  filed : (limits : Limits) (read : Option ℕ) (bytes : List ℕ) → ReadInto read bytes → Wrote (File limits) (of_read read bytes (file_written limits) nothing_written)
  advised : Wrote Usage usage_written

-- by some arguments, how many, and the words that follow the program's own name; and that is all that is handed over
pub record JobfileRan {W : Type 0} (sink : Ghosts W) (held holds : W) (handed : Handed) : Type 0 where
  pub count : ℕ
  pub first : List ℕ
  pub second : List ℕ
  pub third : List ℕ
  pub fourth : List ℕ
  pub written : Written
  pub wrote : Wrote (command_of count first second third fourth) written
  pub handed_over : WroteOnly sink held holds handed written
