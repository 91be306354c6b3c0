-- `oracles::round_robin::RoundRobin::advance` meets its contract. Assumes nothing.
use mathlib.Core.Path.{◌≡◌, refl, sym, ap, ◌∙◌}
use Rattle.std.specs.Prelude.{Ok, Err}
use mathlib.Core.Bool.{Bool, true, false, ◌&&◌}
use lib.Signed.{lt_z}
use mir.Syntax.{w32}
use mir.Val.{SFits}
use mir.Facts.{to_z-of_z}
use borrow.Author.Rules.{rules}
use Rattle.oracles.specs.RoundRobin.{is_band, is_at, advanced, advance_answer}
use Rattle.oracles.specs.laws.RoundRobin.{legal_of}
use Rattle.oracles.specs.declared.round_robin.RoundRobin.{RoundRobin}
use Rattle.numbers.specs.declared.refusal.Refusal.TheVariants.{Band, Cursor}
use Rattle.numbers.specs.laws.Pick.{and_parts}
use Rattle.numbers.specs.laws.Refusal.{asked_ok, asked_err, gone, failed, held, at_first, at_next, refuses, accepts}
use Rattle.oracles.proofs.Signed.{read}
use Rattle.oracles.proofs.round_robin.RoundRobin.advance.Goals as goal

-- lo and hi fit, and are read back as they are
module _ (self : RoundRobin) (fl : SFits w32 self.lo) (fh : SFits w32 self.hi) {t : Bool} (e : t ≡ is_band (read self.lo) (read self.hi)) where
  is_lo : read self.lo ≡ self.lo
  is_lo = to_z-of_z fl

  is_hi : read self.hi ≡ self.hi
  is_hi = to_z-of_z fh

  -- the test of the band, as the machine makes it
  abbrev tested : Bool
  tested = t && lt_z (read self.lo) (read self.hi)

  whole : tested ≡ (is_band self.lo self.hi && lt_z self.lo self.hi)
  whole = λ i. (e ∙ (λ j. is_band (is_lo j) (is_hi j))) i && lt_z (is_lo i) (is_hi i)

  band : tested ≡ true → is_band self.lo self.hi ≡ true
  band h = (and_parts (is_band self.lo self.hi) (lt_z self.lo self.hi) (sym whole ∙ h)).0

  no_band : tested ≡ false → Err Band ≡ advance_answer self
  unfolding advance_answer
  no_band h = refuses _ _ _ (at_first _ (failed (sym whole ∙ h))) refl

  no_cursor : tested ≡ true → is_at self ≡ false → Err Cursor ≡ advance_answer self
  unfolding advance_answer
  no_cursor h k = refuses _ _ _ (at_next (held _ _ (sym whole ∙ h)) (failed k)) refl

  goes : tested ≡ true → is_at self ≡ true → (r : RoundRobin) → r ≡ advanced self → Ok r ≡ advance_answer self
  unfolding advance_answer
  goes h k r q = accepts _ _ _ (at_next (held _ _ (sym whole ∙ h)) (held _ _ k)) (ap Ok q)

pub returns-in_err-ask : goal.returns-in_err-ask
returns-in_err-ask c =
    let p = asked_err _ _ c.ask.ensures.value c.in_err-ask.was in
    gone c.from_residual.ensures.1 p.1 ∙ no_band _ (search rules) (search rules) c.is_band.ensures p.0

pub returns-in_err-ask-2 : goal.returns-in_err-ask-2
returns-in_err-ask-2 c =
    let p = asked_err _ _ c.ask-2.ensures.value c.in_err-ask-2.was in
    gone c.from_residual-in_err-ask-2.ensures.1 p.1
    ∙ no_cursor _ (search rules) (search rules) c.is_band.ensures (asked_ok _ _ c.ask.ensures.value c.in_ok-ask.was) (sym c.is_at.ensures ∙ p.0)

pub step-requires : goal.step-requires
step-requires c =
    legal_of _ (band c.args.self (search rules) (search rules) c.is_band.ensures (asked_ok _ _ c.ask.ensures.value c.in_ok-ask.was))
    (sym c.is_at.ensures ∙ asked_ok _ _ c.ask-2.ensures.value c.in_ok-ask-2.was)

pub returns : goal.returns
returns c =
    goes _ (search rules) (search rules) c.is_band.ensures (asked_ok _ _ c.ask.ensures.value c.in_ok-ask.was)
    (sym c.is_at.ensures ∙ asked_ok _ _ c.ask-2.ensures.value c.in_ok-ask-2.was) _ c.step.ensures
