-- `drivers::record::record_fault` meets its contract. Assumes nothing.
use Rattle.std.specs.Prelude.{is_err}
use Rattle.numbers.specs.Refusal.{Tests}
use mathlib.Core.Path.{◌≡◌, refl, ap, subst}
use borrow.Author.Rules.{rules}
use mathlib.Core.Bool.{true, false}
use mathlib.Core.List.{List}
use Prim.Native.Nat.{ℕ}
use lib.ListN.{length}
use Rattle.drivers.specs.Record.{fields_of, walk_of, missing_fault, record_fault}
use Rattle.drivers.specs.declared.rules.Form.{Form}
use Rattle.numbers.specs.laws.Pick.{hit, skip}
use Rattle.drivers.proofs.record.record_fault.Goals as goal

module _ (bytes : List ℕ) (form : Form) (places₀ places : List ℕ) (f : Tests) (e : (f, places) ≡ walk_of bytes form (fields_of bytes) places₀) where
  stops : is_err f ≡ true → (f, places) ≡ record_fault bytes form places₀
  unfolding record_fault
  stops t = rw (← e) (ap (λ (z : Tests). (z, places)) (hit (is_err f) f _ f t refl))

  goes_on : is_err f ≡ false → (m : Tests) → m ≡ missing_fault (length bytes) form places → (m, places) ≡ record_fault bytes form places₀
  unfolding record_fault
  goes_on t m d = rw (← e) (ap (λ (z : Tests). (z, places)) (skip (is_err f) f _ m t d))

pub returns : goal.returns
returns c = goes_on c.args.bytes.now c.args.form _ _ _ c.walk.ensures (ap is_err c.in_ok-walk.was) _ c.missing_fault.ensures

pub returns-in_err-walk : goal.returns-in_err-walk
returns-in_err-walk c =
    let bytes = c.args.bytes.now in
    let same : c.walk.result ≡ c.from_residual.result = search rules in
    subst (λ (f : Tests). (f, c.walk.new.places) ≡ record_fault bytes c.args.form c.args.places.now) same
    (stops bytes c.args.form _ _ _ c.walk.ensures (ap is_err c.in_err-walk.was))
