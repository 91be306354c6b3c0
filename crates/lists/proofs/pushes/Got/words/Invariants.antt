-- What the loop of `lists::pushes::Got::words` keeps.
use Rattle.std.specs.Prelude.{◌≡◌, ◌-◌, length}
use Rattle.lists.specs.Pushes.{words_pushed}
use Rattle.lists.proofs.pushes.Got.words.Given as goal

-- what is left, pushed, gives the whole
abbrev pub invariant-loop-w : goal.invariant-loop-w
invariant-loop-w l =
    words_pushed l.words l.w-index (length l.words - l.w-index) l.self.len l.self.bytes ≡ words_pushed l.words 0 (length l.words) l.fn.self.len l.fn.self.bytes
