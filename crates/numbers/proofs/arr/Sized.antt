-- The tests of a call that takes n and slices whose lengths n says: refusal 1, refusal 2, and what is left. Assumes nothing.
use Rattle.std.specs.Prelude.{◌≡◌, Bool, Ok, Err, Result, ⊤}
use Rattle.numbers.specs.Refusal.{◌⨾◌, ask, asked, At, Sound}
use Rattle.numbers.specs.declared.refusal.Refusal.{Refusal}
use Rattle.numbers.specs.declared.refusal.Refusal.TheVariants.{Dimension, Length}
use Rattle.numbers.specs.laws.Refusal.{at_first, at_next, asked_fault, asked_sound}

-- `sized`, over any two tests: r is what was answered to the first, s to the second
module _ (t fit : Bool) {r : Result ⊤ Refusal} (d : r ≡ asked t Dimension) where
  pub no_dimension : {e : Refusal} → r ≡ Err e → At e 0 ≡ (ask t Dimension ⨾ ask fit Length)
  no_dimension h = at_first _ (asked_fault _ _ d h)

  module _ {u : ⊤} {s : Result ⊤ Refusal} (h : r ≡ Ok u) (l : s ≡ asked fit Length) where
    pub no_length : {e : Refusal} → s ≡ Err e → At e 0 ≡ (ask t Dimension ⨾ ask fit Length)
    no_length k = at_next (asked_sound _ _ d h) (asked_fault _ _ l k)

    pub all_fit : {v : ⊤} → s ≡ Ok v → Sound ≡ (ask t Dimension ⨾ ask fit Length)
    all_fit k = at_next (asked_sound _ _ d h) (asked_sound _ _ l k)
