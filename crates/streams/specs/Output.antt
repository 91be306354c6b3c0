-- Texts that are handed over. Definitions only.
use Rattle.std.specs.Prelude.{ℕ, ◌≡◌, Bool, true, false, List, []}
use Rattle.std.specs.Fmt.{WritesInCalls}
use Rattle.std.specs.Io.KnownBytes.{Appends}
use Rattle.streams.specs.Mark.{marked}
use Rattle.streams.specs.declared.output.Stream.{Stream}
use Rattle.streams.specs.declared.output.Stream.TheVariants.{Stdout, Stderr}
use Rattle.streams.specs.declared.output.Marks.{Marks}
use Rattle.streams.specs.declared.output.Handed.{Handed}
use Rattle.streams.specs.declared.output.Console.{Console}
use Rattle.streams.specs.declared.sink.Sink.{Ghosts}

-- the marks of a program that has handed nothing over
abbrev pub no_marks : Marks
no_marks = record { stdout = 1; stderr = 1 }

-- a text more, to one of the streams
abbrev pub marks_on : Marks → Stream → List ℕ → Marks
marks_on before Stdout text = record { stdout = marked before.stdout text; stderr = before.stderr }
marks_on before Stderr text = record { stdout = before.stdout; stderr = marked before.stderr text }

-- what of a text goes to standard output
abbrev pub to_stdout : Stream → List ℕ → List ℕ
to_stdout Stdout text = text
to_stdout Stderr text = []

-- one write, from whether one has failed before and the writer to what it left: after a failed write nothing is written, and else only a write that was made can be shown
abbrev pub Step : {W : Type 0} → Ghosts W → Bool × W → List ℕ → Bool × W → Type 0
Step sink (true, w) text after = after ≡ (true, w)
Step sink (false, w) text after = sink.put_gives w text after.0 after.1

-- all bytes of a text were written in turn, in one or more parts, up to the first write that failed
abbrev pub ByWrites : {W : Type 0} → Ghosts W → Bool × W → List ℕ → Bool × W → Type 0
ByWrites sink before text after = WritesInCalls (Step sink) before text after

-- whether a write to standard output has failed, and the writer
abbrev pub stdout_of : {W E : Type 0} → Console W E → Bool × W
stdout_of c = (c.handed.has_failed, c.output.now)

-- a console hands over one text more, and nothing else: its marks are those of the text, what it writes to standard output is the text, and if no write has failed, the writer holds what
-- it held before, and the text
pub record Hands {W E : Type 0} (sink : Ghosts W) (before after : Console W E) (to : Stream) (text : List ℕ) : Type 0 where
  pub marks : after.handed.marks ≡ marks_on before.handed.marks to text
  pub same : after.output.ghost_name ≡ before.output.ghost_name
  pub writes : ByWrites sink (stdout_of before) (to_stdout to text) (stdout_of after)
  pub arrives : after.handed.has_failed ≡ false → (before.handed.has_failed ≡ false) × Appends (sink.contents before.output.now) (sink.contents after.output.now) (to_stdout to text)

-- nothing is handed over: marks and standard output are as they were
pub record Keeps {W E : Type 0} (before after : Console W E) : Type 0 where
  pub handed : after.handed ≡ before.handed
  pub same : after.output.ghost_name ≡ before.output.ghost_name
  pub holds : after.output.now ≡ before.output.now

-- from nothing on one text was handed over, and nothing else; what standard output held before, and what it holds after it
pub record HandedOver {W : Type 0} (sink : Ghosts W) (held holds : W) (handed : Handed) (to : Stream) (text : List ℕ) : Type 0 where
  pub marks : handed.marks ≡ marks_on no_marks to text
  pub writes : ByWrites sink (false, held) (to_stdout to text) (handed.has_failed, holds)
  pub arrives : handed.has_failed ≡ false → Appends (sink.contents held) (sink.contents holds) (to_stdout to text)
