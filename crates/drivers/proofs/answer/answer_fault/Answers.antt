-- `drivers::answer::answer_fault` meets its contract: n, the walk, and what follows it. Assumes nothing.
use Rattle.std.specs.Prelude.{is_err, Err}
use mathlib.Core.Path.{◌≡◌, refl, sym, ap, ◌∙◌}
use mathlib.Core.Bool.{true, false, true≢false}
use mathlib.Core.List.{List}
use Prim.Native.Nat.{ℕ}
use Rattle.numbers.specs.Arr.{is_dimension}
use Rattle.numbers.specs.laws.Arr.{dimension_most}
use Rattle.numbers.specs.declared.refusal.Refusal.TheVariants.{Dimension}
use Rattle.std.proofs.lemmas.Result.{err_from_is_err_and}
use Rattle.numbers.specs.declared.refusal.Refusal.{Refusal}
use Rattle.numbers.specs.declared.refusal.Fault.{Fault}
use Rattle.numbers.specs.Refusal.{◌⨾◌, At, Sound, Tests}
use Rattle.numbers.specs.laws.Refusal.{stops, passes, failed, held, at_first, at_next, exit_same, asked_ok, asked_err}
use Rattle.drivers.specs.Rules.{answer_form}
use Rattle.drivers.specs.Record.{no_places, record_fault}
use Rattle.drivers.specs.Answer.{answer_walk, read_answer_tests}
use Rattle.drivers.specs.laws.Answer.{content_fault, read_chain}
use Rattle.drivers.proofs.answer.answer_fault.Goals as goal

-- a refusal outside of a record
abbrev outside : Refusal → Fault
outside why = record { why = why; place = 0 }

module _ (n : ℕ) (bytes : List ℕ) (room : ℕ) where
  -- r is what the tests find, and without a fault the walk's places are noted
  abbrev Agrees : Tests → List ℕ → Type 0
  Agrees r places = (r ≡ read_answer_tests n bytes room) × (r ≡ Sound → places ≡ (answer_walk bytes).1)

  no_dimension : (places : List ℕ) → is_dimension n ≡ false → Agrees (At Dimension 0) places
  no_dimension places d = (at_first _ (failed d) ∙ sym (read_chain n bytes room), λ e. absurd (true≢false (ap is_err e)))

  -- the walk found f and noted the places
  module _ (d : is_dimension n ≡ true) (places₀ : List ℕ) (e₀ : places₀ ≡ no_places) (f : Tests) (places : List ℕ) (e : (f, places) ≡ record_fault bytes answer_form places₀) where
    walked : (f, places) ≡ answer_walk bytes
    walked = e ∙ ap (λ (l : List ℕ). record_fault bytes answer_form l) e₀

    answer : (r : Tests) → r ≡ (f ⨾ content_fault n bytes places room) → Agrees r places
    answer r h = rw (read_chain n bytes room, ← walked) (at_next (held Dimension 0 d) h, λ _. refl)

    at_walk : is_err f ≡ true → Agrees f places
    at_walk t = answer f (stops f _ t)

    behind : is_err f ≡ false → (r : Tests) → r ≡ content_fault n bytes places room → Agrees r places
    behind t r h = answer r (passes f _ r t h)

pub returns-in_err-dimension : goal.returns-in_err-dimension
returns-in_err-dimension c =
    let a = c.args in
    let q = asked_err _ _ c.dimension.ensures.value c.in_err-dimension.was in
    let w = err_from_is_err_and c.from_residual.result c.from_residual.ensures.1 in
    let p = no_dimension a.n a.bytes.now a.room a.places.now q.0 in
    let e : c.from_residual.result ≡ At Dimension 0 = w.1 ∙ ap Err (w.2 ∙ ap outside q.1) in
    rw e (record { value = p.0; places_after = p.1 })

pub returns-in_err-record_fault : goal.returns-in_err-record_fault
returns-in_err-record_fault c =
    let a = c.args in
    let e = exit_same c.from_residual-in_err-record_fault.ensures.1 c.in_err-record_fault.was in
    let p = at_walk a.n a.bytes.now a.room (asked_ok _ _ c.dimension.ensures.value c.in_ok-dimension.was) _ c.requires _ _ c.record_fault.ensures
    (ap is_err c.in_err-record_fault.was) in
    rw e (record { value = p.0; places_after = p.1 })

pub content_fault-requires : goal.content_fault-requires
content_fault-requires c =
    dimension_most c.args.n (asked_ok _ _ c.dimension.ensures.value c.in_ok-dimension.was)

pub returns : goal.returns
returns c =
    let a = c.args in
    let p = behind a.n a.bytes.now a.room (asked_ok _ _ c.dimension.ensures.value c.in_ok-dimension.was) _ c.requires _ _ c.record_fault.ensures
    (ap is_err c.in_ok-record_fault.was) _ c.content_fault.ensures in
    record { value = p.0; places_after = p.1 }
