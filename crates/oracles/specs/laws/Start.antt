-- Laws of an oracle at its start. Assumes nothing.
use Rattle.std.specs.Prelude.{◌≡◌, refl, true, ℕ, ℤ, pos, ◌-ℤ◌, Float}
use Rattle.std.proofs.Common.{sym, ap}
use Rattle.numbers.specs.laws.Refusal.{held, accepts}
use Rattle.oracles.specs.RoundRobin.{is_band, new_range_tests, new_range_answer}
use Rattle.oracles.specs.Scan.{none}
use Rattle.oracles.specs.LowpassOracle.{fresh_cur, start_oracle, bands_fit}
use Rattle.oracles.specs.laws.Bands.{band_parts, three_bands}
use Rattle.oracles.specs.declared.lowpass_oracle.LowpassOracle.{LowpassOracle}

-- before a band stands lo − 1
pub fresh_before : (lo hi : ℤ) → is_band lo hi ≡ true → fresh_cur (new_range_answer lo hi) ≡ lo -ℤ pos 1
unfolding new_range_answer
fresh_before lo hi h = ap fresh_cur (sym (accepts _ _ (new_range_tests lo hi) (held _ _ h) refl))

-- Document 01: where the bands pass refusal 3, each idx starts at its band's lo − 1.
pub start_before : (nwpass nwstop cur1 cur2 cur3 : ℤ) (lp up sp : Float) (rows : ℕ)
    → let o = start_oracle nwpass nwstop (pos rows) cur1 cur2 cur3 lp up sp in
    bands_fit o rows ≡ true → (o.idx1 ≡ none) × (o.idx2 ≡ nwpass -ℤ pos 1) × (o.idx3 ≡ nwstop -ℤ pos 1)
unfolding start_oracle
start_before nwpass nwstop cur1 cur2 cur3 lp up sp rows h =
    let o = start_oracle nwpass nwstop (pos rows) cur1 cur2 cur3 lp up sp in
    let b = band_parts o rows h in
    let t = three_bands nwpass nwstop rows b.most b.from b.between b.to in
    (fresh_before (pos 0) nwpass t.0, fresh_before nwpass nwstop t.1, fresh_before nwstop (pos rows) t.2)

-- equal numbers, equal oracles
pub start_same : (a b d e f g a' b' d' e' f' g' : ℤ) (lp up sp : Float) (o : LowpassOracle) → a ≡ a' → b ≡ b' → d ≡ d' → e ≡ e' → f ≡ f' → g ≡ g'
    → o ≡ start_oracle a b d e f g lp up sp
    → o ≡ start_oracle a' b' d' e' f' g' lp up sp
start_same a b d e f g a' b' d' e' f' g' lp up sp o ha hb hd he hf hg h = rw (← ha, ← hb, ← hd, ← he, ← hf, ← hg) h
