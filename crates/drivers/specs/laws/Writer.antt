-- Laws of `Writer`: what it has put, piece after piece. Assumes nothing.
use Rattle.std.specs.Prelude.{◌≡◌, ℕ, Bool, true, false, cond, List, [], ◌∷◌, ◌++◌}
use Rattle.std.proofs.Common.{refl, ap, subst, ◌∙◌}
use Rattle.drivers.specs.Text.{bytes_of}
use Rattle.drivers.specs.Trace.{side_word, outcome_word}
use Rattle.drivers.specs.laws.Text.{put_all, put_none, put_on}
use Rattle.drivers.specs.declared.text.Writer.{Writer}

-- a writer puts these pieces, and nothing else, into the slice that it holds
pub record Puts (before after : Writer) (pieces : List (List ℕ)) : Type 0 where
  pub is : (after.at, after.out.now) ≡ put_all before.out.now before.at pieces
  pub same : after.out.ghost_name ≡ before.out.ghost_name

pub puts_none : (w : Writer) → Puts w w []
puts_none w = record { is = put_none w.out.now w.at; same = refl }

pub puts_on : {a b c : Writer} {xs ys : List (List ℕ)} → Puts a b xs → Puts b c ys → Puts a c (xs ++ ys)
puts_on {a} {b} {c} {xs} {ys} p q = record { is = put_on a.out.now a.at (b.at, b.out.now) (c.at, c.out.now) xs ys p.is q.is; same = q.same ∙ p.same }

-- the same pieces, told otherwise
pub puts_same : {a b : Writer} {xs ys : List (List ℕ)} → Puts a b xs → xs ≡ ys → Puts a b ys
puts_same {a} {b} p e = subst (Puts a b) e p

pub puts_word : {a b : Writer} {word other : List ℕ} → Puts a b (word ∷ []) → word ≡ other → Puts a b (other ∷ [])
puts_word p e = puts_same p (ap (λ (w : List ℕ). w ∷ []) e)

-- one of two words
pub puts_side : {a b : Writer} (t u : Bool) → Puts a b (cond t (bytes_of " over ") (bytes_of " under ") ∷ []) → t ≡ u → Puts a b (side_word u ∷ [])
puts_side t u p e = puts_same p (side t ∙ ap (λ (v : Bool). side_word v ∷ []) e)
  where
    side : (t : Bool) → (cond t (bytes_of " over ") (bytes_of " under ") ∷ []) ≡ (side_word t ∷ [])
    side true = refl
    side false = refl

pub puts_outcome : {a b : Writer} (t : Bool) → Puts a b (cond t (bytes_of "found ") (bytes_of "none ") ∷ []) → Puts a b (outcome_word t ∷ [])
puts_outcome t p = puts_same p (outcome t)
  where
    outcome : (t : Bool) → (cond t (bytes_of "found ") (bytes_of "none ") ∷ []) ≡ (outcome_word t ∷ [])
    outcome true = refl
    outcome false = refl
