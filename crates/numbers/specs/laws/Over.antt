-- Laws of what is written over a list. Assumes nothing.
use Prim.Native.Nat.{ℕ, suc, ◌+◌, ◌≤◌, ◌<◌}
use Rattle.std.specs.Prelude.{◌≡◌, set}
use Rattle.std.proofs.Math.Path.{refl, sym, ap}
use Rattle.std.proofs.Common.{◌∙◌, zero-add, take-append-drop}
use mathlib.Core.List.{List, [], ◌∷◌, ◌++◌, append_assoc, append-nil}
use Rattle.std.proofs.Math.Nat.{add-zero}
use native.Mathlib.Omega.{arith}
use Rattle.std.proofs.Math.ListN.{length, take, drop, length-append, length-drop}
use Rattle.std.proofs.Math.Seq.{take_at, drop_at, take-take, drop-append-add, drop-drop, set_split, length-take-le, append_snoc}
use Rattle.std.proofs.lemmas.List.{take-append-le}
use Rattle.numbers.specs.Over.{over}

module _ {ℓ} {X : Type ℓ} where
  pub over_none : (out : List X) (at : ℕ) → over out at [] ≡ out
  unfolding over
  over_none out at = rw (append-nil, add-zero, take-append-drop)

  module _ (out : List X) (at : ℕ) (xs : List X) (h : at + length xs ≤ length out) where
    front_long : length (take at out ++ xs) ≡ at + length xs
    front_long = length-append (take at out) xs ∙ ap (λ (n : ℕ). n + length xs) (length-take-le at out (omega arith))

    pub length_over : length (over out at xs) ≡ length out
    unfolding over
    length_over = length-append (take at out ++ xs) (drop (at + length xs) out) ∙ omega (arith, front_long, length-drop (at + length xs) out)

    -- more behind what is written
    pub over_on : (ys : List X) → over (over out at xs) (at + length xs) ys ≡ over out at (xs ++ ys)
    unfolding over
    over_on ys =
        let p = take at out ++ xs in
        let d = drop (at + length xs) out in
        let e : at + length xs + length ys ≡ length p + length ys = omega (arith, front_long) in
        let l : at + length xs + length ys ≡ at + length (xs ++ ys) = omega (arith, length-append xs ys) in
        ap (λ (l : List X). l ++ ys ++ drop (at + length xs + length ys) (p ++ d)) (take_at p d (at + length xs) front_long)
        ∙ ap (λ (n : ℕ). p ++ ys ++ drop n (p ++ d)) e
        ∙ ap (λ (l : List X). p ++ ys ++ l) (drop-append-add p d (length ys) ∙ drop-drop (length ys) (at + length xs) out)
        ∙ ap (λ (l : List X). l ++ drop (at + length xs + length ys) out) (append_assoc (take at out) xs ys)
        ∙ ap (λ (n : ℕ). take at out ++ (xs ++ ys) ++ drop n out) l

    -- what is written can be read there
    pub read_over : drop at (over out at xs) ≡ xs ++ drop (at + length xs) out
    unfolding over
    read_over = ap (drop at) (append_assoc (take at out) xs (drop (at + length xs) out)) ∙ drop_at (take at out) (xs ++ drop (at + length xs) out) at (length-take-le at out (omega arith))

  -- at the front
  pub over_front : (out new : List X) → over out 0 new ≡ new ++ drop (length new) out
  unfolding over
  over_front out new = ap (λ (n : ℕ). new ++ drop n out) (zero-add (length new))

  pub front_over : (out new : List X) → take (length new) (over out 0 new) ≡ new
  unfolding over
  front_over out new = take_at new (drop (0 + length new) out) (length new) refl

  -- one stored: by itself, behind those that are written, and before them
  pub set_over : (out : List X) (i : ℕ) (v : X) → i < length out → set out i v ≡ over out i (v ∷ [])
  unfolding over
  set_over out i v h =
      let e : suc i ≡ i + 1 = omega arith in
      set_split out i v h ∙ sym (append_snoc (take i out) v (drop (suc i) out)) ∙ ap (λ (n : ℕ). take i out ++ (v ∷ []) ++ drop n out) e

  pub store_on : (out : List X) (at : ℕ) (xs : List X) (v : X) → at + length xs < length out → set (over out at xs) (at + length xs) v ≡ over out at (xs ++ (v ∷ []))
  store_on out at xs v h =
      let l : at + length xs ≤ length out = omega arith in
      set_over (over out at xs) (at + length xs) v (rw (length_over out at xs l) h) ∙ over_on out at xs l (v ∷ [])

  pub store_before : (out : List X) (i : ℕ) (xs : List X) (v : X) → suc i + length xs ≤ length out → set (over out (suc i) xs) i v ≡ over out i (v ∷ xs)
  unfolding over
  store_before out i xs v h =
      let a = take (suc i) out in
      let d = drop (suc i + length xs) out in
      let la : length a ≡ suc i = length-take-le (suc i) out (omega arith) in
      let n : suc i + length xs ≡ i + suc (length xs) = omega arith in
      set_split (a ++ xs ++ d) i v (rw (length-append (a ++ xs) d, length-append a xs, la) (omega arith))
      ∙ ap (λ (l : List X). take i l ++ v ∷ drop (suc i) l) (append_assoc a xs d)
      ∙ ap (λ (l : List X). l ++ v ∷ drop (suc i) (a ++ (xs ++ d))) (take-append-le i a (xs ++ d) (omega (arith, la)) ∙ take-take i (suc i) out (omega arith))
      ∙ ap (λ (l : List X). take i out ++ v ∷ l) (drop_at a (xs ++ d) (suc i) la)
      ∙ sym (append_assoc (take i out) (v ∷ xs) d)
      ∙ ap (λ (k : ℕ). take i out ++ (v ∷ xs) ++ drop k out) n
