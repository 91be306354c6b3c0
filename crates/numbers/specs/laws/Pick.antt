-- Laws of tests, of choices by them, and of tests over a range. Assumes nothing.
use Rattle.std.specs.Prelude.{◌≡◌, refl, Bool, true, false, not, ◌&&◌, ◌||◌, ℕ, zero, suc, ◌≤◌, ◌<◌, ◌+◌, ltb}
use Rattle.std.proofs.Common.{sym, ap, ◌∙◌, true≢false, ⊎_elim, inl, inr, eq-or-lt_of_le, add-zero, arith, ltb-true, ltb-false, lt-ltb, le-ltb}
use Rattle.std.proofs.Math.Bool.{or-false, or_assoc, and-eq-true_iff}
use Rattle.std.proofs.lemmas.Bool.{not-true, not-false}
use Rattle.numbers.specs.Pick.{pick, some}

-- the two parts of a test
pub and_parts : (a b : Bool) → (a && b) ≡ true → (a ≡ true) × (b ≡ true)
and_parts a b = (and-eq-true_iff a b).0

pub or_parts : (a b : Bool) → (a || b) ≡ false → (a ≡ false) × (b ≡ false)
or_parts true b e = absurd (true≢false e)
or_parts false b e = (refl, e)

-- a test that holds, and one that does not
pub hit {ℓ} : {X : Type ℓ} (t : Bool) (a b r : X) → t ≡ true → r ≡ a → r ≡ pick t a b
unfolding pick
hit t a b r h e = rw h e

pub skip {ℓ} : {X : Type ℓ} (t : Bool) (a b r : X) → t ≡ false → r ≡ b → r ≡ pick t a b
unfolding pick
skip t a b r h e = rw h e

-- ---- a test of the code: r is what it answered, and the code goes by `!r`

module _ (r t : Bool) (e : r ≡ t) where
  pub says_no : not r ≡ true → t ≡ false
  says_no h = sym e ∙ not-true r h

  pub says_yes : not r ≡ false → t ≡ true
  says_yes h = sym e ∙ not-false r h

-- ---- a choice by a test, entry by entry

module _ {ℓ} {X : Type ℓ} where
  -- what it is, by the test
  pub is_hit : (t : Bool) (a b : X) → t ≡ true → pick t a b ≡ a
  is_hit t a b e = sym (hit t a b a e refl)

  pub is_skip : (t : Bool) (a b : X) → t ≡ false → pick t a b ≡ b
  is_skip t a b e = sym (skip t a b b e refl)

  -- what is shown in both cases
  pub both_ways : (t : Bool) {r : X} {a b : X} → (t ≡ true → r ≡ a) → (t ≡ false → r ≡ b) → r ≡ pick t a b
  both_ways t {r} {a} {b} h k = go t refl
    where
      go : (s : Bool) → t ≡ s → r ≡ pick t a b
      go true e = hit t a b r e (h e)
      go false e = skip t a b r e (k e)

  -- two choices by one test
  pub pick_cong : (t : Bool) {a b a' b' : X} → (t ≡ true → a ≡ a') → (t ≡ false → b ≡ b') → pick t a b ≡ pick t a' b'
  pick_cong t {a} {b} h k = both_ways t (λ e. is_hit t a b e ∙ h e) (λ e. is_skip t a b e ∙ k e)

  -- the choice for an index below j, at any other index, when j has been passed
  pub pick_grow : (k j : ℕ) (a b : X) → (k ≡ j → ⊥) → pick (ltb k j) a b ≡ pick (ltb k (j + 1)) a b
  pick_grow k j a b h =
      both_ways (ltb k (j + 1))
      (λ e. is_hit (ltb k j) a b (lt-ltb k j (⊎_elim (λ (q : k ≡ j). absurd (h q)) (λ (l : k < j). l) (eq-or-lt_of_le (omega (arith, ltb-true k (j + 1) e))))))
      (λ e. is_skip (ltb k j) a b (le-ltb k j (omega (arith, ltb-false k (j + 1) e))))

-- what holds of both holds of the one that is taken
pub by_test {ℓ} : {X : Type 0} (P : X → Type ℓ) (t : Bool) (a b : X) → (t ≡ true → P a) → (t ≡ false → P b) → P (pick t a b)
unfolding pick
by_test P true a b f g = f refl
by_test P false a b f g = g refl

-- what a function makes of a choice
pub pick_map {ℓ ℓ'} : {X : Type ℓ} {Y : Type ℓ'} (f : X → Y) (t : Bool) (a b : X) → f (pick t a b) ≡ pick t (f a) (f b)
pick_map f t a b = both_ways t (λ e. ap f (is_hit t a b e)) (λ e. ap f (is_skip t a b e))

-- ---- whether one of some numbers has a property

-- none that has it
pub some_false : (f : ℕ → Bool) (lo count : ℕ) → some f lo count ≡ false → (i : ℕ) → lo ≤ i → i < lo + count → f i ≡ false
unfolding some
some_false f lo zero e i a b = absurd (omega arith)
some_false f lo (suc count) e i a b =
    let p = or_parts (some f lo count) (f (lo + count)) e in
    let m : i ≤ lo + count = omega arith in
    elim (eq-or-lt_of_le m) [ inl q ↦ rw q p.1 | inr l ↦ some_false f lo count p.0 i a l ]

pub none_some : (f : ℕ → Bool) (lo count : ℕ) → ((i : ℕ) → lo ≤ i → i < lo + count → f i ≡ false) → some f lo count ≡ false
unfolding some
none_some f lo zero h = refl
none_some f lo (suc count) h = rw (none_some f lo count (λ i a b. h i a (omega arith))) (h (lo + count) (omega arith) (omega arith))

-- one that has it
pub some_holds : (f : ℕ → Bool) (lo count i : ℕ) → lo ≤ i → i < lo + count → f i ≡ true → some f lo count ≡ true
some_holds f lo count i a b h = go (some f lo count) refl
  where
    go : (t : Bool) → some f lo count ≡ t → some f lo count ≡ true
    go true e = e
    go false e = absurd (true≢false (sym h ∙ some_false f lo count e i a b))

-- a range in two parts
pub some_split : (f : ℕ → Bool) (lo m k : ℕ) → some f lo (m + k) ≡ (some f lo m || some f (lo + m) k)
unfolding some
some_split f lo m zero = ap (some f lo) (add-zero m) ∙ sym (or-false (some f lo m))
some_split f lo m (suc k) =
    let e : m + suc k ≡ suc (m + k) = omega arith in
    let q : lo + (m + k) ≡ lo + m + k = omega arith in
    ap (some f lo) e ∙ (λ j. some_split f lo m k j || f (q j)) ∙ or_assoc (some f lo m) (some f (lo + m) k) (f (lo + m + k))

-- a range moved on by d
pub some_shift : (f : ℕ → Bool) (d lo count : ℕ) → some f (lo + d) count ≡ some (λ i. f (i + d)) lo count
unfolding some
some_shift f d lo zero = refl
some_shift f d lo (suc count) =
    let q : lo + d + count ≡ lo + count + d = omega arith in
    λ j. some_shift f d lo count j || f (q j)

-- two tests that agree on a range
pub some_same : (f g : ℕ → Bool) (lo count : ℕ) → ((i : ℕ) → lo ≤ i → i < lo + count → f i ≡ g i) → some f lo count ≡ some g lo count
unfolding some
some_same f g lo zero h = refl
some_same f g lo (suc count) h =
    let rest = some_same f g lo count (λ i a b. h i a (omega arith)) in
    let last = h (lo + count) (omega arith) (omega arith) in
    λ j. rest j || last j
