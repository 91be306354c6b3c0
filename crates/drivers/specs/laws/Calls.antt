-- Laws of Calls: a call after which there is more to come took a step, so that the calls come to an end. Assumes nothing.
use Rattle.drivers.specs.Run.{next_answer}
use Rattle.numbers.specs.Pick.{pick}
use mathlib.Core.List.{List, []}
use Rattle.std.specs.Prelude.{ℕ, zero, suc, ◌-◌, ◌<◌, ◌≡◌, Bool, true, ltb, Float}
use Rattle.std.proofs.Math.Path.{refl, ap}
use Rattle.std.proofs.Common.{sym, ◌∙◌, true≢false, arith, ltb-true}
use Rattle.std.proofs.Math.Bool.{false}
use mathlib.Core.List.{List, [], ◌++◌}
use Rattle.numbers.specs.laws.Pick.{is_hit, is_skip, by_test, pick_cong}
use Rattle.numbers.specs.laws.Refusal.{by_tests}
use Rattle.oracles.specs.Ell.{EllBuffers}
use Rattle.drivers.specs.Run.{step_printed, limit_printed, next_tests, next_answer}
use Rattle.drivers.specs.declared.run.Run.{Run}
use Rattle.drivers.specs.declared.run.Printed.{Printed}
use Rattle.drivers.specs.Trace.{text_in}
use Rattle.drivers.specs.laws.Trace.{printed_by}

-- what a call leaves: its answer, the slices and the text
abbrev pub CallEnd : Type 0
CallEnd = Printed × EllBuffers × List Float × List ℕ

-- how many calls there can be after this one: a step for each that the limit leaves, and the last line
unfoldable pub calls_after : Printed → ℕ
calls_after p = pick p.more (suc (p.run.options.max_iters - p.run.niter)) 0

-- the call after this one
abbrev pub next_of : List Float → CallEnd → CallEnd
next_of table r = next_answer r.0.run table r.1 r.2 r.3

-- the last call, of which so many can come after this one
unfoldable pub last_of : ℕ → List Float → CallEnd → CallEnd
last_of zero table r = r
last_of (suc left) table r = pick r.0.more (last_of left table (next_of table r)) r

-- all calls of a run, from its first
unfoldable pub run_all_answer : Run → List Float → EllBuffers → List Float → List ℕ → CallEnd
unfolding calls_after last_of
run_all_answer run table b grad out = let r = next_answer run table b grad out in last_of (calls_after r.0) table r

-- ---- their texts

-- a call's
abbrev pub text_of : CallEnd → List ℕ
text_of r = text_in r.0.text r.3

-- of the calls that come after this one
unfoldable pub texts_after : List Float → CallEnd → List ℕ
texts_after table r = pick r.0.more (printed_by (calls_after r.0) r.0.run table r.1 r.2 r.3) []

-- of all calls of a run, from its first
abbrev pub run_all_text : Run → List Float → EllBuffers → List Float → List ℕ → List ℕ
run_all_text run table b grad out = printed_by (suc (run.options.max_iters - run.niter)) run table b grad out

-- where there is more to come, the run is one step on
abbrev Moves : Run → CallEnd → Type 0
Moves run r =
    r.0.more ≡ true → (run.niter < run.options.max_iters) × (r.0.run.options.max_iters ≡ run.options.max_iters) × (r.0.run.niter ≡ suc run.niter)

no_more : {A : Type 0} (t : Bool) → t ≡ false → t ≡ true → A
no_more t e h = absurd (true≢false (sym h ∙ e))

module _ (run : Run) (table : List Float) (b : EllBuffers) (grad : List Float) (out : List ℕ) where
  step_moves : run.niter < run.options.max_iters → Moves run (step_printed run table b grad out)
  unfolding step_printed
  step_moves l h = (l, refl, is_hit _ _ _ h)

  limit_moves : Moves run (limit_printed run b grad out)
  unfolding limit_printed
  limit_moves h = no_more false refl h

  next_moves : Moves run (next_answer run table b grad out)
  unfolding next_answer
  next_moves =
      by_tests (Moves run) (next_tests run table b grad out) _ _ (λ why place e. no_more false refl)
      (λ e. by_test (Moves run) (ltb run.niter run.options.max_iters) _ _ (λ t. step_moves (ltb-true _ _ t)) (λ _. limit_moves))

going : (p : Printed) → p.more ≡ true → calls_after p ≡ suc (p.run.options.max_iters - p.run.niter)
unfolding calls_after
going p e = is_hit _ _ _ e

over : (p : Printed) → p.more ≡ false → calls_after p ≡ 0
unfolding calls_after
over p e = is_skip _ _ _ e

module _ (run : Run) (table : List Float) (b : EllBuffers) (grad : List Float) (out : List ℕ) where
  abbrev first : CallEnd
  first = next_answer run table b grad out

  one_fewer : first.0.more ≡ true → calls_after first.0 ≡ run.options.max_iters - run.niter
  one_fewer h =
      let m = next_moves run table b grad out h in
      going first.0 h ∙ omega (arith, m.0, m.1, m.2)

  -- the texts of a run are its first call's and those after it
  first_text : run_all_text run table b grad out ≡ text_of first ++ texts_after table first
  unfolding printed_by texts_after
  first_text =
      ap (λ (l : List ℕ). text_of first ++ l)
      (pick_cong first.0.more (λ h. ap (λ (k : ℕ). printed_by k first.0.run table first.1 first.2 first.3) (sym (one_fewer h))) (λ _. refl))

-- ---- a turn of the calls

-- where this call is the last, nothing is left of them
pub last_done : (k : ℕ) (table : List Float) (r : CallEnd) → r.0.more ≡ false → last_of k table r ≡ r
unfolding last_of
last_done zero table r e = refl
last_done (suc k) table r e = is_skip _ _ _ e

pub texts_done : (table : List Float) (r : CallEnd) → r.0.more ≡ false → texts_after table r ≡ []
unfolding texts_after
texts_done table r e = is_skip _ _ _ e

last_turn : (k : ℕ) (table : List Float) (r : CallEnd) → r.0.more ≡ true → last_of (suc k) table r ≡ last_of k table (next_of table r)
unfolding last_of
last_turn k table r e = is_hit _ _ _ e

module _ (table : List Float) (r : CallEnd) (e : r.0.more ≡ true) where
  abbrev run : Run
  run = r.0.run

  abbrev q : CallEnd
  q = next_of table r

  abbrev left : ℕ
  left = run.options.max_iters - run.niter

  fewer : q.0.more ≡ true → calls_after q.0 ≡ left
  fewer = one_fewer run table r.1 r.2 r.3

  by_more : {P : Type 0} → (q.0.more ≡ true → P) → (q.0.more ≡ false → P) → P
  by_more f g = go q.0.more f g
    where
      go : {P : Type 0} (t : Bool) → (t ≡ true → P) → (t ≡ false → P) → P
      go true f g = f refl
      go false f g = g refl

  pub calls_fewer : calls_after q.0 < calls_after r.0
  calls_fewer = by_more (λ h. omega (arith, going r.0 e, fewer h)) (λ h. omega (arith, going r.0 e, over q.0 h))

  pub calls_turn : last_of (calls_after r.0) table r ≡ last_of (calls_after q.0) table q
  calls_turn =
      ap (λ (k : ℕ). last_of k table r) (going r.0 e) ∙ last_turn left table r e
      ∙ by_more (λ h. ap (λ (k : ℕ). last_of k table q) (sym (fewer h)))
      (λ h. last_done left table q h ∙ sym (last_done (calls_after q.0) table q h))

  pub texts_turn : texts_after table r ≡ text_of q ++ texts_after table q
  unfolding texts_after
  texts_turn =
      is_hit _ _ _ e ∙ ap (λ (k : ℕ). printed_by k run table r.1 r.2 r.3) (going r.0 e)
      ∙ first_text run table r.1 r.2 r.3

-- from a run's first call on
pub all_from : (run : Run) (table : List Float) (b : EllBuffers) (grad : List Float) (out : List ℕ) (r : CallEnd) → r ≡ next_answer run table b grad out
    → last_of (calls_after r.0) table r ≡ run_all_answer run table b grad out
unfolding run_all_answer
all_from run₀ table b grad out r e = ap (λ (q : CallEnd). last_of (calls_after q.0) table q) e

pub texts_from : (run : Run) (table : List Float) (b : EllBuffers) (grad : List Float) (out : List ℕ) (r : CallEnd) → r ≡ next_answer run table b grad out
    → text_of r ++ texts_after table r ≡ run_all_text run table b grad out
texts_from run table b grad out r e = ap (λ (q : CallEnd). text_of q ++ texts_after table q) e ∙ sym (first_text run table b grad out)

-- more calls than there can be print no more
pub calls_enough : (calls more : ℕ) (run : Run) (table : List Float) (b : EllBuffers) (grad : List Float) (out : List ℕ)
    → (let left = run.options.max_iters - run.niter in
    left < calls → left < more → printed_by calls run table b grad out ≡ printed_by more run table b grad out)
unfolding printed_by
calls_enough zero more run table b grad out h l = absurd (omega (arith, h))
calls_enough (suc calls) zero run table b grad out h l = absurd (omega (arith, l))
calls_enough (suc calls) (suc more) run table b grad out h l =
    let q = next_answer run table b grad out in
    ap (λ (rest : List ℕ). text_of q ++ rest)
    (pick_cong q.0.more
    (λ e.
    let m = next_moves run table b grad out e in
    calls_enough calls more q.0.run table q.1 q.2 q.3 (omega (arith, m.0, m.1, m.2)) (omega (arith, m.0, m.1, m.2)))
    (λ _. refl))
