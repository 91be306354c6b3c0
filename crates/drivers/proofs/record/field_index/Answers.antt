-- `drivers::record::field_index` meets its contract, a test at a time. Assumes nothing.
use Rattle.std.specs.Prelude.{Ok}
use Rattle.numbers.specs.Refusal.{At, Sound}
use mathlib.Core.Path.{◌≡◌, refl, sym, ap, ◌∙◌}
use mathlib.Core.Bool.{Bool, true, false, not, ◌&&◌}
use mathlib.Core.List.{List}
use Prim.Native.Nat.{ℕ, ◌<◌, ◌≤◌, ◌+◌, ◌-◌}
use native.Mathlib.Omega.{arith}
use borrow.Author.Tests.{lt-ltb, le-ltb, lt-leb, le-leb, not-true, not-false}
use lib.Dec.{eqb}
use lib.ListN.{length}
use Rattle.numbers.specs.laws.Refusal.{failed, held, at_first, at_next, refuses, accepts}
use Rattle.numbers.specs.declared.refusal.Refusal.TheVariants.{CutShort, ForeignTag, RepeatedTag}
use Rattle.drivers.specs.Record.{index_at, length_at, place, field_fault}
use Rattle.drivers.specs.declared.rules.Rule.{Rule}
use Rattle.drivers.specs.declared.rules.Form.{Form}
use Rattle.drivers.specs.Rules.{has_tag, is_many, rule_at, is_of, index_of}
use Rattle.drivers.specs.laws.Rules.{is_of_listed}
use Rattle.drivers.specs.laws.Record.{has_none, has_some}
use Rattle.drivers.proofs.record.field_index.Goals as goal

-- a tag by its rule: whether it is of the form, and that it is then in the table
module _ (bytes : List ℕ) (form : Form) (at i : ℕ) (e : i ≡ index_at bytes at) (r : Rule) (d : r ≡ rule_at i) (t : Bool) (q : t ≡ has_tag form r) where
  of_form : t ≡ is_of form (index_at bytes at)
  of_form = q ∙ rw (d, e)

  listed : not t ≡ false → i < 12
  listed f = rw e (is_of_listed form (index_at bytes at) (sym of_form ∙ not-false t f))

module _ (bytes : List ℕ) (form : Form) (places : List ℕ) (at : ℕ) where
  no_header : length bytes - at < 3 → At CutShort at ≡ field_fault bytes form places at
  unfolding field_fault
  no_header h = at_first _ (failed (lt-leb 3 (length bytes - at) h))

  module _ (h : 3 ≤ length bytes - at) (i : ℕ) (e : i ≡ index_at bytes at) (r : Rule) (d : r ≡ rule_at i) (t : Bool) (q : t ≡ has_tag form r) where
    known : t ≡ is_of form (index_at bytes at)
    known = of_form bytes form at i e r d t q

    foreign : not t ≡ true → At ForeignTag at ≡ field_fault bytes form places at
    unfolding field_fault
    foreign f = at_next (held _ _ (le-leb 3 (length bytes - at) h)) (at_first _ (failed (sym known ∙ not-true t f)))

    module _ (f : not t ≡ false) (o : Bool) (m : o ≡ is_many r.often) where
      again : (not (eqb (place places i) 0) && not o) ≡ true → At RepeatedTag at ≡ field_fault bytes form places at
      unfolding field_fault
      again g =
          at_next (held _ _ (le-leb 3 (length bytes - at) h))
          (at_next (held _ _ (sym known ∙ not-false t f)) (at_first _ (failed (rw (← e, ← d, ← m) (ap not g)))))

      module _ (g : (not (eqb (place places i) 0) && not o) ≡ false) (l : ℕ) (k : l ≡ length_at bytes at) where
        no_content : length bytes - at - 3 < l → At CutShort at ≡ field_fault bytes form places at
        unfolding field_fault
        no_content x =
            at_next (held _ _ (le-leb 3 (length bytes - at) h))
            (at_next (held _ _ (sym known ∙ not-false t f))
            (at_next (held _ _ (rw (← e, ← d, ← m) (ap not g))) (failed (ap not (lt-ltb (length bytes - at) (3 + length_at bytes at) (omega arith))))))

        sound : l ≤ length bytes - at - 3 → Sound ≡ field_fault bytes form places at
        unfolding field_fault
        sound x =
            at_next (held _ _ (le-leb 3 (length bytes - at) h))
            (at_next (held _ _ (sym known ∙ not-false t f))
            (at_next (held _ _ (rw (← e, ← d, ← m) (ap not g))) (held _ _ (ap not (le-ltb (length bytes - at) (3 + length_at bytes at) (omega arith))))))

pub returns-then-not-is_of : goal.returns-then-not-is_of
returns-then-not-is_of c =
    refuses _ _ _ (foreign _ _ _ _ (omega (arith, has_some _ _ _ c.has_room.ensures c.if-not-has_room.false)) _ (c.rule_index-i.ensures ∙ ap index_of c.byte_at.ensures) _ c.rule_at-rule.ensures _ c.is_of.ensures (ap not c.if-not-is_of.true)) refl

pub bounds-places-i : goal.bounds-places-i
bounds-places-i c =
    listed _ _ _ _ (c.rule_index-i.ensures ∙ ap index_of c.byte_at.ensures) _ c.rule_at-rule.ensures _ c.is_of.ensures (ap not c.if-not-is_of.false)

pub returns-then-places-i : goal.returns-then-places-i
returns-then-places-i c =
    refuses _ _ _ (again _ _ _ _ (omega (arith, has_some _ _ _ c.has_room.ensures c.if-not-has_room.false)) _ (c.rule_index-i.ensures ∙ ap index_of c.byte_at.ensures) _ c.rule_at-rule.ensures _ c.is_of.ensures (ap not c.if-not-is_of.false) _ c.repeats.ensures c.if-places-i.true) refl

pub returns-then-not-has_room-2 : goal.returns-then-not-has_room-2
returns-then-not-has_room-2 c =
    refuses _ _ _ (no_content _ _ _ _ (omega (arith, has_some _ _ _ c.has_room.ensures c.if-not-has_room.false)) _ (c.rule_index-i.ensures ∙ ap index_of c.byte_at.ensures) _ c.rule_at-rule.ensures _ c.is_of.ensures (ap not c.if-not-is_of.false)
    _ c.repeats.ensures c.if-places-i.false _ c.length_at.ensures (omega (arith, has_none _ _ _ c.has_room-2.ensures c.if-not-has_room-2.true (omega arith), has_some _ _ _ c.has_room.ensures c.if-not-has_room.false))) refl

pub returns : goal.returns
returns c =
    accepts _ _ _ (sound _ _ _ _ (omega (arith, has_some _ _ _ c.has_room.ensures c.if-not-has_room.false)) _ (c.rule_index-i.ensures ∙ ap index_of c.byte_at.ensures) _ c.rule_at-rule.ensures _ c.is_of.ensures (ap not c.if-not-is_of.false)
    _ c.repeats.ensures c.if-places-i.false _ c.length_at.ensures (omega (arith, has_some _ _ _ c.has_room-2.ensures c.if-not-has_room-2.false))) (ap Ok (c.rule_index-i.ensures ∙ ap index_of c.byte_at.ensures))

pub returns-then-not-has_room : goal.returns-then-not-has_room
returns-then-not-has_room c = refuses _ _ _ (no_header _ _ _ _ (has_none _ _ _ c.has_room.ensures c.if-not-has_room.true (omega arith))) refl

pub offset_bounds-places-i : goal.offset_bounds-places-i
offset_bounds-places-i c = record { fits = omega (arith, listed _ _ _ _ (c.rule_index-i.ensures ∙ ap index_of c.byte_at.ensures) _ c.rule_at-rule.ensures _ c.is_of.ensures (ap not c.if-not-is_of.false)) }
