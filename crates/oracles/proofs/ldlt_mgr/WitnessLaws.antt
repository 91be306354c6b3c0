-- Laws of the loop that writes the witness, for the proof of witness_into alone. Assumes nothing.
use mathlib.Core.Path.{◌≡◌, refl, sym, ap, ◌∙◌}
use mathlib.Core.List.{List, ◌∷◌, ◌++◌}
use Prim.Native.Nat.{ℕ, zero, suc, ◌≤◌, ◌<◌, ◌+◌, ◌-◌}
use native.Mathlib.Numerals.{add-one}
use native.Mathlib.Omega.{arith}
use lib.ListN.{length, take, drop, set, length-set}
use lib.Seq.{append_snoc, split_at, get_or-set_same, take-set-le, drop-set-lt, length-take-le}
use lib.Ieee.{Float, nan, neg}
use Rattle.numbers.specs.F64.{◌⊕◌, ◌⊗◌, 0ᶠ, 1ᶠ}
use Rattle.oracles.specs.Matrix.{nth, at, total}
use Rattle.oracles.specs.LdltMgr.{witness_tail, witness_of}
use Rattle.oracles.specs.laws.Matrix.{total_cong, entry_mid, set_last}

module _ (m : ℕ) (storage : List Float) (end : ℕ) where
  length_tail : (n : ℕ) → length (witness_tail m storage end n) ≡ n
  unfolding witness_tail
  length_tail zero = refl
  length_tail (suc zero) = refl
  length_tail (suc (suc k)) = ap suc (length_tail (suc k))

  -- the entry p of a witness, from those after it
  tail_step : (p k : ℕ) → end ≡ suc (suc k) + p
      → witness_tail m storage end (end - p)
      ≡ neg (total ◌⊕◌ 0ᶠ (λ j. at m storage (p + 1 + j) p ⊗ nth (witness_tail m storage end (suc k)) j) (suc k)) ∷ witness_tail m storage end (suc k)
  unfolding witness_tail
  tail_step p k e =
      let a : end - p ≡ suc (suc k) = omega arith in
      let b : end - suc (suc k) ≡ p = omega arith in
      let after = witness_tail m storage end (suc k) in
      rw a (ap (λ (i : ℕ). neg (total ◌⊕◌ 0ᶠ (λ j. at m storage (i + 1 + j) i ⊗ nth after j) (suc k)) ∷ after) b)

  -- the loop that writes it from the last entry back: `wit₀` before, `wit` when the entries from i on are written
  pub record WitnessTo (wit₀ wit : List Float) (i : ℕ) : Type 0 where
    pub below : i < end
    pub within : end ≤ length wit₀
    pub long : length wit ≡ length wit₀
    pub is : wit ≡ take i wit₀ ++ witness_tail m storage end (end - i) ++ drop end wit₀

  -- the last entry is 1 when the loop begins
  pub witness_start : (wit : List Float) → 0 < end → end ≤ length wit → let w = set wit (end - 1) 1ᶠ in WitnessTo w w (end - 1)
  unfolding witness_tail
  witness_start wit h l =
      let a : end - (end - 1) ≡ 1 = omega arith in
      let b : suc (end - 1) ≡ end = omega arith in
      let w = set wit (end - 1) 1ᶠ in
      let long = length-set wit (end - 1) 1ᶠ in
      let last : nth w (end - 1) ≡ 1ᶠ = get_or-set_same wit (end - 1) 1ᶠ nan (omega arith) in
      let parts : w ≡ take (end - 1) w ++ (1ᶠ ∷ drop end w) =
      split_at w (end - 1) nan (omega arith) ∙ rw (b, last)
      in
      record {
        below = omega arith;
        within = omega arith;
        long = refl;
        is = rw a (parts ∙ sym (append_snoc (take (end - 1) w) 1ᶠ (drop end w)));
      }

  pub witness_turn : (wit₀ wit : List Float) (p : ℕ) (s : Float) → WitnessTo wit₀ wit (suc p)
      → s ≡ total ◌⊕◌ 0ᶠ (λ j. at m storage (p + 1 + j) p ⊗ nth wit (p + 1 + j)) (end - (p + 1)) → WitnessTo wit₀ (set wit p (neg s)) p
  witness_turn wit₀ wit p s h e =
      let b = h.below in
      let l = h.within in
      let k = end - suc (suc p) in
      let after = witness_tail m storage end (suc k) in
      let rest = drop end wit₀ in
      let long_after = length_tail (suc k) in
      let q : end - suc p ≡ suc k = omega arith in
      let is : wit ≡ take (suc p) wit₀ ++ after ++ rest = h.is ∙ ap (λ (n : ℕ). take (suc p) wit₀ ++ witness_tail m storage end n ++ rest) q in
      let reads : (j : ℕ) → j < suc k → nth wit (p + 1 + j) ≡ nth after j =
      λ j a. ap (λ (w : List Float). nth w (p + 1 + j)) is ∙ entry_mid (take (suc p) wit₀) after rest (p + 1) j (rw add-one (length-take-le (suc p) wit₀ (omega arith))) (omega arith)
      in
      let q2 : end - (p + 1) ≡ suc k = omega arith in
      let sum : s ≡ total ◌⊕◌ 0ᶠ (λ j. at m storage (p + 1 + j) p ⊗ nth after j) (suc k) =
      e ∙ ap (total ◌⊕◌ 0ᶠ (λ j. at m storage (p + 1 + j) p ⊗ nth wit (p + 1 + j))) q2
      ∙ total_cong ◌⊕◌ 0ᶠ (λ j. at m storage (p + 1 + j) p ⊗ nth wit (p + 1 + j)) (λ j. at m storage (p + 1 + j) p ⊗ nth after j) (suc k) (λ j a. rw (reads j a))
      in
      record {
        below = omega arith;
        within = l;
        long = length-set wit p (neg s) ∙ h.long;
        is =
            ap (λ (w : List Float). set w p (neg s)) is ∙ set_last wit₀ p (neg s) after rest (omega arith)
            ∙ ap (λ (w : List Float). take p wit₀ ++ w ++ rest) (ap (λ (x : Float). neg x ∷ after) sum ∙ sym (tail_step p k (omega arith)));
      }

  pub witness_done : (wit₀ wit : List Float) (start i : ℕ) → start ≤ i → i ≤ start → WitnessTo (set wit₀ (end - 1) 1ᶠ) wit i
      → wit ≡ witness_of m (record { start = start; end = end }) storage wit₀
  unfolding witness_of
  witness_done wit₀ wit start i j k h =
      let b = h.below in
      let q : i ≡ start = omega arith in
      h.is ∙ rw (take-set-le i wit₀ (end - 1) 1ᶠ (omega arith), drop-set-lt end wit₀ (end - 1) 1ᶠ (omega arith), q)
