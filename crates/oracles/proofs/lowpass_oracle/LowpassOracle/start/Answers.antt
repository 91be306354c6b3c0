-- `oracles::lowpass_oracle::LowpassOracle::start` meets its contract. Assumes nothing.
use mathlib.Core.Path.{◌≡◌, refl, ◌∙◌}
use Rattle.std.specs.Prelude.{Result}
use Rattle.numbers.specs.declared.refusal.Refusal.{Refusal}
use mathlib.Core.Bool.{true}
use lib.IntN.{ℤ, pos}
use mir.Syntax.{w32}
use mir.Facts.{to_z-of_z}
use lib.Ieee
use lib.Ieee.{Float}
use Rattle.oracles.specs.RoundRobin.{new_range_answer}
use Rattle.oracles.specs.Scan.{−∞, none}
use Rattle.oracles.specs.LowpassOracle.{fresh_cur, start_oracle}
use Rattle.oracles.specs.laws.Start.{start_same}
use Rattle.oracles.specs.declared.lowpass_oracle.LowpassOracle.{LowpassOracle}
use Rattle.oracles.proofs.lowpass_oracle.LowpassOracle.start.Goals as goal
use borrow.Author.Rules.{rules}
use Rattle.oracles.specs.declared.round_robin.RoundRobin.{RoundRobin}

is : (a b d e f g : ℤ) (lp up sp : Float) (p q r : Result RoundRobin Refusal) (i j k : ℤ)
    → p ≡ new_range_answer (pos 0) a
    → q ≡ new_range_answer a b
    → r ≡ new_range_answer b d
    → i ≡ fresh_cur p
    → j ≡ fresh_cur q
    → k ≡ fresh_cur r
    → ◌≡◌ {A = LowpassOracle} (record {
      more_alt = true;
      idx1 = i;
      nwpass = a;
      nwstop = b;
      lp_sq = lp;
      up_sq = up;
      sp_sq = sp;
      idx2 = j;
      idx3 = k;
      fmax = −∞;
      kmax = none;
      rr1 = record { cur = e; lo = pos 0; hi = a };
      rr2 = record { cur = f; lo = a; hi = b };
      rr3 = record { cur = g; lo = b; hi = d };
    }) (start_oracle a b d e f g lp up sp)
unfolding start_oracle
is a b d e f g lp up sp p q r i j k hp hq hr hi hj hk = rw (hi, hj, hk, hp, hq, hr) refl

pub returns : goal.returns
unfolding Ieee.div Ieee.neg Ieee.of_bits
returns c =
    let z = c.ranges in
    start_same _ _ _ _ _ _ _ _ _ _ _ _ _ _ _ _ (to_z-of_z z.nwpass) (to_z-of_z z.nwstop) (to_z-of_z z.mdim) (to_z-of_z z.cur1) (to_z-of_z z.cur2) (to_z-of_z z.cur3)
    (is _ _ _ _ _ _ _ _ _ _ _ _ _ _ _ c.new_range-fresh1.ensures c.new_range-fresh2.ensures c.new_range-fresh3.ensures (to_z-of_z {w = w32} (search rules) ∙ c.fresh_cur.ensures) (to_z-of_z {w = w32} (search rules) ∙ c.fresh_cur-2.ensures) (to_z-of_z {w = w32} (search rules) ∙ c.fresh_cur-3.ensures))
