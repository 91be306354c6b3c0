-- `drivers::record::walk` meets its contract. Assumes nothing.
use Rattle.std.specs.Prelude.{is_err, Result, Ok, Err}
use mathlib.Core.Path.{◌≡◌, refl, sym, ap, subst, ◌∙◌}
use borrow.Author.Rules.{rules}
use mathlib.Core.Bool.{false, not, ◌&&◌}
use mathlib.Core.List.{List, [], ◌∷◌}
use Prim.Native.Nat.{ℕ, ◌<◌, ◌-◌}
use native.Mathlib.Omega.{arith}
use lib.Dec.{leb}
use lib.ListN.{length, set}
use Rattle.numbers.specs.Pick.{pick}
use Rattle.numbers.specs.Refusal.{◌⨾◌, ask_at, At, Sound, Tests, unless}
use Rattle.numbers.specs.declared.refusal.Fault.{Fault}
use Rattle.numbers.specs.laws.Pick.{is_hit, is_skip}
use Rattle.numbers.specs.laws.Refusal.{no_fault, both_sound, ask_sound, gone}
use Rattle.numbers.specs.declared.refusal.Refusal.TheVariants.{CutShort, ForeignTag, RepeatedTag}
use Rattle.drivers.specs.Record.{is_met, overruns, index_at, content_of, place, first_place, noted, field_fault, fields_of, walk_of}
use Rattle.drivers.specs.laws.Record.{fields_after}
use Rattle.drivers.specs.declared.rules.Form.{Form}
use Rattle.drivers.specs.Rules.{is_of, repeats}
use Rattle.drivers.specs.laws.Rules.{is_of_listed}
use Rattle.drivers.proofs.record.walk.Goals as goal

-- what the tests of a field answered: their fault, or the tag's place
unless_at : (f : Tests) (i : ℕ) {r : Result ℕ Fault} {fault : Fault} → r ≡ unless f At (Ok i) → r ≡ Err fault → f ≡ Err fault
unless_at Sound i {r} {fault} a b = let z : ◌≡◌ {A = Result ℕ Fault} (Ok i) (Err fault) = sym a ∙ b in absurd (cc)
unless_at (Err g) i {r} {fault} a b = let z : ◌≡◌ {A = Result ℕ Fault} (Err g) (Err fault) = sym a ∙ b in let w : g ≡ fault = cc in ap Err w

unless_is : (f : Tests) (i : ℕ) {r : Result ℕ Fault} {k : ℕ} → r ≡ unless f At (Ok i) → r ≡ Ok k → (f ≡ Sound) × (k ≡ i)
unless_is Sound i {r} {k} a b = let z : ◌≡◌ {A = Result ℕ Fault} (Ok i) (Ok k) = sym a ∙ b in (refl, let w : i ≡ k = cc in sym w)
unless_is (Err g) i {r} {k} a b = let z : ◌≡◌ {A = Result ℕ Fault} (Err g) (Ok k) = sym a ∙ b in absurd (cc)

module _ (bytes : List ℕ) (form : Form) where
  -- a field without a fault has a tag of the form
  known : (places : List ℕ) (at : ℕ) → is_err (field_fault bytes form places at) ≡ false → index_at bytes at < 12
  unfolding field_fault
  known places at h =
      let i = index_at bytes at in
      let of_form = ask_at at (is_of form i) ForeignTag in
      let rest = ask_at at (not (is_met places i && not (repeats i))) RepeatedTag ⨾ ask_at at (not (overruns bytes at)) CutShort in
      let e = (both_sound (ask_at at (leb 3 (length bytes - at)) CutShort) (of_form ⨾ rest) (no_fault (field_fault bytes form places at) h)).1 in
      is_of_listed form i (ask_sound (is_of form i) ForeignTag at (both_sound of_form rest e).0)

  module _ (places : List ℕ) (at : ℕ) (rest all : List ℕ) (r : Result ℕ Fault) (e : r ≡ unless (field_fault bytes form places at) At (Ok (index_at bytes at)))
      (w : Tests × List ℕ) (is : all ≡ at ∷ rest) (left : walk_of bytes form all places ≡ w) where
    turn : walk_of bytes form all places
        ≡ pick (is_err (field_fault bytes form places at)) (field_fault bytes form places at, places) (walk_of bytes form rest (noted places (index_at bytes at) (content_of bytes at)))
    unfolding walk_of
    turn = ap (λ (l : List ℕ). walk_of bytes form l places) is

    stops : (f : Fault) → r ≡ Err f → (Err f, places) ≡ w
    stops f d =
        let q = unless_at (field_fault bytes form places at) _ e d in
        ap (λ (t : Tests). (t, places)) (sym q) ∙ sym (turn ∙ is_hit _ _ _ (ap is_err q)) ∙ left

    module _ (i : ℕ) (d : r ≡ Ok i) where
      passed : (field_fault bytes form places at ≡ Sound) × (i ≡ index_at bytes at)
      passed = unless_is (field_fault bytes form places at) _ e d

      goes_on : (p q : ℕ) → p ≡ content_of bytes at → q ≡ first_place (place places i) p → walk_of bytes form rest (set places i q) ≡ w
      goes_on p q b c = rw (c, passed.1, b) (sym (turn ∙ is_skip _ _ _ (ap is_err passed.0)) ∙ left)

      listed : i < 12
      listed = rw passed.1 (known places at (ap is_err passed.0))

  ends : (places all : List ℕ) (w : Tests × List ℕ) → all ≡ [] → walk_of bytes form all places ≡ w → (Sound, places) ≡ w
  unfolding walk_of
  ends places all w is left = sym (ap (λ (l : List ℕ). walk_of bytes form l places) is) ∙ left

-- the field that a turn takes, and those that are left
pub loop-at-init : goal.loop-at-init
loop-at-init c =
    let bytes = c.args.bytes.now in
    let e : fields_after c.into_iter-at-iterator.result.bytes.now c.into_iter-at-iterator.result.at ≡ fields_of bytes = search rules in
    ap (λ (l : List ℕ). walk_of bytes c.args.form l c.args.places.now) e

pub returns-in_err-i : goal.returns-in_err-i
returns-in_err-i c =
    let bytes = c.args.bytes.now in
    let l = c.loop-at in
    subst (λ (f : Tests). (f, l.places) ≡ walk_of bytes c.args.form (fields_of bytes) c.args.places.now) (sym (gone c.from_residual.ensures.1 refl))
    (stops bytes c.args.form l.places _ _ _ _ c.field_index.ensures _ c.in-Some.ensures.steps l.invariant _ c.in_err-i.was)

pub bounds-places-i : goal.bounds-places-i
bounds-places-i c =
    listed c.args.bytes.now c.args.form _ _ _ _ _ c.field_index.ensures _ c.in-Some.ensures.steps c.loop-at.invariant _ c.in_ok-i.was

pub bounds-places-i-in-loop-at : goal.bounds-places-i-in-loop-at
bounds-places-i-in-loop-at c =
    listed c.args.bytes.now c.args.form _ _ _ _ _ c.field_index.ensures _ c.in-Some.ensures.steps c.loop-at.invariant _ c.in_ok-i.was

pub offset_bounds-places-i : goal.offset_bounds-places-i
offset_bounds-places-i c =
    record { fits = omega (arith, listed c.args.bytes.now c.args.form _ _ _ _ _ c.field_index.ensures _ c.in-Some.ensures.steps c.loop-at.invariant _ c.in_ok-i.was) }

pub offset_bounds-places-i-in-loop-at : goal.offset_bounds-places-i-in-loop-at
offset_bounds-places-i-in-loop-at c =
    record { fits = omega (arith, listed c.args.bytes.now c.args.form _ _ _ _ _ c.field_index.ensures _ c.in-Some.ensures.steps c.loop-at.invariant _ c.in_ok-i.was) }

pub loop-at-preserved : goal.loop-at-preserved
loop-at-preserved c =
    goes_on c.args.bytes.now c.args.form _ _ _ _ _ c.field_index.ensures _ c.in-Some.ensures.steps c.loop-at.invariant _ c.in_ok-i.was _ _ c.content_at.ensures c.first_place.ensures

pub returns : goal.returns
returns c = ends c.args.bytes.now c.args.form _ _ _ c.in-None.ensures.steps.0 c.loop-at.invariant
