-- What the proofs of `pushes` cite. Assumes nothing.
use Rattle.std.proofs.Common.{◌≡◌, ℕ, suc, ◌+◌, ◌-◌, ◌<◌, ◌≤◌, List, get_or, ◌∙◌, arith}
use Rattle.lists.specs.Pushes.{pushed, words_pushed}

-- the loop over words, from its invariant: what is left, pushed, gives the whole
module _ (words : List ℕ) (end i k : ℕ) (got : List ℕ) {whole : ℕ × List ℕ} (inv : words_pushed words i (end - i) k got ≡ whole) where
  pub words_turn : (r : ℕ) (got' : List ℕ) → i < end → (r, got') ≡ pushed (get_or words i 0) k got → words_pushed words (i + 1) (end - (i + 1)) r got' ≡ whole
  unfolding words_pushed
  words_turn r got' h e =
      let q : end - i ≡ suc (end - (i + 1)) = omega arith in
      let p : words_pushed words i (suc (end - (i + 1))) k got ≡ whole = rw q at inv in
      (λ j. words_pushed words (i + 1) (end - (i + 1)) (e j).0 (e j).1) ∙ p

  pub words_done : end ≤ i → (k, got) ≡ whole
  unfolding words_pushed
  words_done h = let q : end - i ≡ 0 = omega arith in rw q at inv
