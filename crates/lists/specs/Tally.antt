-- Whether a case agrees, and how the cases are counted. Definitions only.
use Rattle.std.specs.Prelude.{ℕ, ◌+◌, min, Bool, List, ◌==◌, nat_le, replicate, slice_index_or, slice_set, Option, Some, None, Result, Ok, Err}
use Rattle.numbers.specs.Pick.{pick}
use Rattle.lists.specs.Words.{first_diff}
use Rattle.lists.specs.declared.case.Case.{Case}
use Rattle.lists.specs.declared.case.Damage.{Damage}
use Rattle.lists.specs.declared.tally.Unreplayed.{Unreplayed}
use Rattle.lists.specs.declared.tally.Unreplayed.TheVariants.{Refused, Unfit, Unknown}
use Rattle.lists.specs.declared.tally.Verdict.{Verdict}
use Rattle.lists.specs.declared.tally.Verdict.TheVariants.{Agrees, Differs, Unknown as NotKnown}
use Rattle.lists.specs.declared.tally.Counts.{Counts}
use Rattle.lists.specs.declared.tally.Tally.{Tally}

-- at the first difference of the words that both have; where there is none, the counts decide
abbrev pub at_difference : ℕ → ℕ → Option ℕ → Verdict
at_difference outs n (Some k) = Differs k
at_difference outs n None = pick (n == outs) Agrees (Differs (min n outs))

-- n words came and `outs` are expected: each must be the same, and none missing
unfoldable pub words_verdict : ℕ → List ℕ → ℕ → List ℕ → Verdict
unfolding first_diff
words_verdict outs expected n got = at_difference outs n (first_diff expected got 0 (min n outs))

-- a refusal and inputs that do not fit differ from every answer
abbrev pub wordless_verdict : Unreplayed → Verdict
wordless_verdict (Refused r) = Differs 0
wordless_verdict Unfit = Differs 0
wordless_verdict Unknown = NotKnown

unfoldable pub verdict_of : ℕ → List ℕ → Result ℕ Unreplayed → List ℕ → Verdict
unfolding words_verdict
verdict_of outs expected (Ok n) got = words_verdict outs expected n got
verdict_of outs expected (Err why) got = wordless_verdict why

-- one more, at the most what 64 bits hold
abbrev pub more : ℕ → ℕ
more x = min (x + 1) 0xffff_ffff_ffff_ffff

abbrev pub no_counts : Counts
no_counts = record { agree = 0; differ = 0 }

-- one more case that agrees, or that differs
abbrev pub agreeing : Counts → Counts
agreeing c = record { agree = more c.agree; differ = c.differ }

abbrev pub differing : Counts → Counts
differing c = record { agree = c.agree; differ = more c.differ }

abbrev pub empty : Tally
empty = record { ops = replicate 256 no_counts; all = no_counts; unknown = 0 }

abbrev pub unknown_more : Tally → Tally
unknown_more t = record { ops = t.ops; all = t.all; unknown = more t.unknown }

-- the operation's counts, and those of all, counted on
abbrev pub both_counted : Tally → ℕ → (Counts → Counts) → Tally
both_counted t op f = record { ops = slice_set t.ops op (f (slice_index_or t.ops op no_counts)); all = f t.all; unknown = t.unknown }

abbrev pub counted : Tally → ℕ → Verdict → Tally
counted t op Agrees = both_counted t op agreeing
counted t op (Differs k) = both_counted t op differing
counted t op NotKnown = unknown_more t

-- only operations below 256 have counts of their own
unfoldable pub tallied : Tally → ℕ → Verdict → Tally
tallied t op v = pick (nat_le 256 op) (unknown_more t) (counted t op v)

-- a damaged list counts as one case that differs, of no operation
abbrev pub damaged_of : Tally → Tally
damaged_of t = record { ops = t.ops; all = differing t.all; unknown = t.unknown }

-- the counts after the next case was read
abbrev pub taken_of : Result (Option Case) Damage → Tally → Tally
taken_of (Ok c) t = t
taken_of (Err d) t = damaged_of t

abbrev pub none_differ : Tally → Bool
none_differ t = t.all.differ == 0
