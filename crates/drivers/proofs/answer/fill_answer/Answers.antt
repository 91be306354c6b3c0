-- `drivers::answer::fill_answer` meets its contract. Assumes nothing.
use mathlib.Core.Path.{◌≡◌, sym, ap, ◌∙◌}
use mathlib.Core.Bool.{true, false, not}
use mathlib.Core.List.{List, [], ◌++◌}
use Prim.Native.Nat.{ℕ, ◌≤◌}
use native.Mathlib.Omega.{arith}
use borrow.Author.Tests.{eq-eqb, ne_eqb}
use lib.ListN.{length, take, drop}
use lib.Seq.{length-take-le}
use lib.Ieee.{Float}
use Rattle.numbers.specs.laws.Arr.{length_tab}
use Rattle.numbers.specs.laws.Pick.{is_hit, is_skip}
use Rattle.drivers.specs.Rules.{steps_place, found_place}
use Rattle.drivers.specs.Record.{half_at, number_at, numbers_at, place, fronted}
use Rattle.drivers.specs.Answer.{has_point, answer_at, point_at}
use Rattle.drivers.specs.declared.answer.Answer.{Answer}
use Rattle.numbers.specs.laws.Over.{over_none, over_front}
use Rattle.drivers.proofs.answer.fill_answer.Goals as goal

module _ (n : ℕ) (bytes places : List ℕ) (point : List Float) (h : ℕ) (e : h ≡ half_at bytes (place places steps_place)) where
  abbrev Agrees : Answer → List Float → Type 0
  Agrees a out = (a ≡ answer_at bytes places) × (out ≡ fronted (point_at n bytes places) point)

  none : place places found_place ≡ 0 → Agrees (record { found = false; steps = h }) point
  none z =
      let p : has_point places ≡ false = ap not (eq-eqb (place places found_place) 0 z) in
      let q : point_at n bytes places ≡ [] = is_skip (has_point places) (numbers_at bytes (place places found_place) n) [] p in
      ((λ i. record { found = sym p i; steps = e i }), rw q (sym (over_none point 0)))

  -- the part xs has been filled
  found : (place places found_place ≡ 0 → ⊥) → (xs : List Float) → xs ≡ numbers_at bytes (place places found_place) (length (take n point)) → n ≤ length point
      → Agrees (record { found = true; steps = h }) (xs ++ drop n point)
  found z xs q l =
      let p : has_point places ≡ true = ap not (ne_eqb (place places found_place) 0 z) in
      let w : length (take n point) ≡ n = length-take-le n point l in
      let y : xs ≡ numbers_at bytes (place places found_place) n = q ∙ ap (numbers_at bytes (place places found_place)) w in
      let r : point_at n bytes places ≡ xs = is_hit (has_point places) (numbers_at bytes (place places found_place) n) [] p ∙ sym y in
      let m : length xs ≡ n = ap length y ∙ length_tab (λ k. number_at bytes (place places found_place) k) n in
      ((λ i. record { found = sym p i; steps = e i }), rw r (ap (λ (k : ℕ). xs ++ drop k point) (sym m) ∙ sym (over_front point xs)))

-- a point that is there has room
roomy : (places : List ℕ) {n : ℕ} {l : ℕ} → (has_point places ≡ true → n ≤ l) → (place places found_place ≡ 0 → ⊥) → n ≤ l
roomy places h z = h (ap not (ne_eqb (place places found_place) 0 z))

pub returns-then-places-eq0 : goal.returns-then-places-eq0
returns-then-places-eq0 c =
    let a = c.args in
    let p = none a.n a.bytes.now a.places.now a.point.now _ c.half_at-steps.ensures c.if-places-eq0.true in
    record { value = p.0; point_after = p.1 }

pub slice_bounds-numbers_into-end-2 : goal.slice_bounds-numbers_into-end-2
slice_bounds-numbers_into-end-2 c =
    sym (length-take-le c.args.n c.args.point.now (roomy c.args.places.now c.requires.1 c.if-places-eq0.false))

pub numbers_into-requires : goal.numbers_into-requires
numbers_into-requires c =
    omega (arith, c.requires.0, length-take-le c.args.n c.args.point.now (roomy c.args.places.now c.requires.1 c.if-places-eq0.false))

pub returns : goal.returns
returns c =
    let a = c.args in
    let z = c.if-places-eq0.false in
    let p = found a.n a.bytes.now a.places.now a.point.now _ c.half_at-steps.ensures z _ c.numbers_into.ensures
    (roomy a.places.now c.requires.1 z) in
    record { value = p.0; point_after = p.1 }

pub overflow_cast-steps : goal.overflow_cast-steps
overflow_cast-steps c = record { fits = omega (arith, c.half_at-steps.ensures) }

pub slice_bounds-numbers_into-end : goal.slice_bounds-numbers_into-end
slice_bounds-numbers_into-end c = roomy c.args.places.now c.requires.1 c.if-places-eq0.false
