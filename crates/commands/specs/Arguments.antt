-- What the arguments of `jobfile` ask for. Definitions only.
use Rattle.std.specs.Prelude.{ℕ, ◌+◌, ◌-◌, ◌*◌, Bool, true, false, ◌&&◌, List, [], ◌∷◌, leb, eqb, length, Float, Option, Some, None, option_and_then, Result, Ok, Err}
use Rattle.numbers.specs.Pick.{pick}
use Rattle.numbers.specs.Bits.{float_of}
use Rattle.drivers.specs.Text.{bytes_of}
use Rattle.commands.specs.declared.arguments.NoLimit.{NoLimit}
use Rattle.commands.specs.declared.arguments.Limits.{Limits}
use Rattle.commands.specs.declared.arguments.Command.{Command}
use Rattle.commands.specs.declared.arguments.Command.TheVariants.{Answer, Belongs, File, Usage}

-- two words of the same bytes
unfoldable pub same_word : List ℕ → List ℕ → Bool
same_word [] [] = true
same_word [] (b ∷ v) = false
same_word (a ∷ u) [] = false
same_word (a ∷ u) (b ∷ v) = eqb a b && same_word u v

-- ---- limits

-- a number from one bound to another, both with it
abbrev pub between : ℕ → ℕ → ℕ → Bool
between least c most = leb least c && leb c most

-- a hexadecimal digit: 0 to 9, A to F or a to f
unfoldable pub hex_digit : ℕ → Option ℕ
hex_digit c = pick (between 48 c 57) (Some (c - 48)) (pick (between 65 c 70) (Some (c - 55)) (pick (between 97 c 102) (Some (c - 87)) None))

-- the number of the digits of w and of these; none where one is no digit
unfoldable pub hex_on : ℕ → List ℕ → Option ℕ
hex_on w [] = Some w
hex_on w (c ∷ word) = option_and_then (λ d. hex_on (w * 16 + d) word) (hex_digit c)

-- the number of so many digits as a float has
unfoldable pub hex_value : List ℕ → Option ℕ
unfolding hex_on
hex_value word = pick (eqb (length word) 16) (hex_on 0 word) None

-- the limit that a number is, if there is one
abbrev pub limit_read : Option ℕ → Result (Option Float) NoLimit
limit_read (Some w) = Ok (Some (float_of w))
limit_read None = Err (record {})

-- what a word says of one limit: a float's digits, or `-`, none, for the job's own
unfoldable pub limit_of : List ℕ → Result (Option Float) NoLimit
unfolding hex_value
limit_of word = pick (same_word word (bytes_of "-")) (Ok None) (limit_read (hex_value word))

-- three limits where each of three words is one
abbrev pub three_limits : Result (Option Float) NoLimit → Result (Option Float) NoLimit → Result (Option Float) NoLimit → Result Limits NoLimit
three_limits (Ok lp) (Ok up) (Ok sp) = Ok (record { lp = lp; up = up; sp = sp })
three_limits lp up sp = Err (record {})

abbrev pub limits_of : List ℕ → List ℕ → List ℕ → Result Limits NoLimit
limits_of lp up sp = three_limits (limit_of lp) (limit_of up) (limit_of sp)

-- ---- commands

-- so many arguments, the program's own name among them, and this word behind it
abbrev pub asks : ℕ → List ℕ → ℕ → List ℕ → Bool
asks count word arguments name = eqb count arguments && same_word word name

-- `file` is `limits - - -`
abbrev pub own_limits : Limits
own_limits = record { lp = None; up = None; sp = None }

-- the three words of `limits`; the usage where one is no limit
abbrev pub limits_asked : Result Limits NoLimit → Command
limits_asked (Ok limits) = File limits
limits_asked (Err e) = Usage

-- `command_of`, by the words that follow the program's own name: whatever is no command asks for the usage
unfoldable pub command_of : ℕ → List ℕ → List ℕ → List ℕ → List ℕ → Command
command_of count first second third fourth =
    pick (asks count first 2 (bytes_of "answer")) Answer
    (pick (asks count first 4 (bytes_of "belongs")) Belongs
    (pick (asks count first 2 (bytes_of "file")) (File own_limits)
    (pick (asks count first 5 (bytes_of "limits")) (limits_asked (limits_of second third fourth)) Usage)))
