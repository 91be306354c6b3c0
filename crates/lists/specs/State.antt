-- The lowpass oracle's state in a case and in an answer. Definitions only.
use Rattle.std.specs.Prelude.{ℕ, ◌+◌, ◌*◌, ◌-◌, ◌%◌, ◌^◌, ◌==◌, nat_le, nat_lt, cond, List, [], ◌∷◌, ℤ, pos, Result, Ok, Err}
use Rattle.numbers.specs.Bits.{bits_of}
use Rattle.oracles.specs.declared.lowpass_oracle.LowpassOracle.{LowpassOracle}
use Rattle.oracles.specs.declared.round_robin.RoundRobin.{RoundRobin}
use Rattle.lists.specs.Words.{word_of, float_at}
use Rattle.lists.specs.Rooms.{plus_of}
use Rattle.lists.specs.Signed.{signed_value, all_signed, signed_word}
use Rattle.lists.specs.Inputs.{fitting}
use Rattle.lists.specs.declared.inputs.Inputs.{Inputs}
use Rattle.lists.specs.declared.state.State.{State}
use Rattle.lists.specs.declared.tally.Unreplayed.{Unreplayed}

-- a place so many words further; places are numbers of 64 bits
abbrev pub on : ℕ → ℕ → ℕ
on k n = (k + n) % 2 ^ 64

abbrev pub signed_at : List ℕ → ℕ → ℤ
signed_at bytes k = signed_value (word_of bytes k)

-- operations below 100 have the state after the table, the others in one piece
abbrev pub legal : ℕ → State
legal cursors = record { limits = 2; cursors = cursors; rest = plus_of cursors 3; sp_sq = plus_of cursors 9 }

abbrev pub any : ℕ → State
any limits = record { limits = limits; cursors = plus_of limits 5; rest = plus_of limits 14; sp_sq = plus_of limits 4 }

abbrev pub cursor_at : List ℕ → ℕ → RoundRobin
cursor_at bytes k = record { cur = signed_at bytes k; lo = signed_at bytes (on k 1); hi = signed_at bytes (on k 2) }

-- the first of two tests that fails
abbrev pub both_pass : Result (Unit {0}) Unreplayed → Result (Unit {0}) Unreplayed → Result (Unit {0}) Unreplayed
both_pass (Ok x) b = b
both_pass (Err why) b = Err why

-- which words have to be signed ones; more_alt is a flag
abbrev pub check_of : State → List ℕ → Result (Unit {0}) Unreplayed
check_of s bytes =
    both_pass (fitting (all_signed bytes s.limits (on s.limits 2 - s.limits)))
    (both_pass (fitting (all_signed bytes s.cursors (on s.rest 3 - s.cursors)))
    (both_pass (fitting (all_signed bytes (on s.rest 4) (on s.rest 5 - on s.rest 4)))
    (fitting (nat_lt (word_of bytes (on s.rest 5)) 2))))

-- cursor i over lo .. hi; where lengths are any it says its band itself
abbrev pub cursor_of : State → Inputs → ℕ → ℤ → ℤ → RoundRobin
cursor_of s inputs i lo hi =
    cond (nat_le 100 inputs.op) (cursor_at inputs.bytes.now (on s.cursors ((i * 3) % 2 ^ 64)))
    (record { cur = signed_at inputs.bytes.now (on s.cursors i); lo = lo; hi = hi })

abbrev pub oracle_of : State → Inputs → LowpassOracle
oracle_of s inputs =
    let bytes = inputs.bytes.now in
    let nwpass = signed_at bytes s.limits in
    let nwstop = signed_at bytes (on s.limits 1) in
    record {
      more_alt = word_of bytes (on s.rest 5) == 1;
      idx1 = signed_at bytes s.rest;
      nwpass = nwpass;
      nwstop = nwstop;
      lp_sq = float_at bytes (on s.limits 2);
      up_sq = float_at bytes (on s.limits 3);
      sp_sq = float_at bytes s.sp_sq;
      idx2 = signed_at bytes (on s.rest 1);
      idx3 = signed_at bytes (on s.rest 2);
      fmax = float_at bytes (on s.rest 3);
      kmax = signed_at bytes (on s.rest 4);
      rr1 = cursor_of s inputs 0 (pos 0) nwpass;
      rr2 = cursor_of s inputs 1 nwpass nwstop;
      rr3 = cursor_of s inputs 2 nwstop (signed_at bytes 1);
    }

-- the state's words in an answer, and those of its cursors' bands
abbrev pub state_words : LowpassOracle → List ℕ
state_words o =
    signed_word o.rr1.cur ∷ signed_word o.rr2.cur ∷ signed_word o.rr3.cur ∷ signed_word o.idx1 ∷ signed_word o.idx2 ∷ signed_word o.idx3
    ∷ bits_of o.fmax ∷ signed_word o.kmax ∷ cond o.more_alt 1 0 ∷ bits_of o.sp_sq ∷ []

abbrev pub band_words : LowpassOracle → List ℕ
band_words o =
    signed_word o.rr1.lo ∷ signed_word o.rr1.hi ∷ signed_word o.rr2.lo ∷ signed_word o.rr2.hi ∷ signed_word o.rr3.lo ∷ signed_word o.rr3.hi ∷ []
