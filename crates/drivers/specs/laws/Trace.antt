-- Laws of Trace: the text of a step fits 128 bytes; what the calls of a run print, one after the other, is the run's text. Assumes nothing.
use Prim.Native.Nat.{ℕ, zero, suc, ◌+◌, ◌-◌, ◌≤◌, ◌<◌}
use Rattle.std.specs.Prelude.{◌≡◌, Bool, ltb, length, Float, Err, None, Ok, Result, Some}
use Rattle.std.proofs.Math.Path.{refl, sym, ap, subst}
use Rattle.std.proofs.Common.{◌∙◌, true≢false, ltb-true, ltb-false, le-leb}
use Rattle.std.proofs.Math.Bool.{true, false}
use mathlib.Core.List.{List, [], ◌++◌, append_assoc, append-nil}
use native.Mathlib.Omega.{arith}
use Rattle.std.proofs.lemmas.Bool.{lt-leb}
use Rattle.std.proofs.Math.ListN.{take}
use Rattle.numbers.specs.Pick.{pick}
use Rattle.numbers.specs.Refusal.{refusal_number, Sound}
use Rattle.numbers.specs.Bits.{bits_of}
use Rattle.numbers.specs.declared.refusal.Refusal.{Refusal}
use Rattle.numbers.specs.declared.refusal.Refusal.TheVariants.{Room}
use Rattle.numbers.specs.declared.cut.CutChoice.{CutChoice}
use Rattle.numbers.specs.declared.cut.CutChoice.TheVariants.{Single, Parallel}
use Rattle.numbers.specs.declared.cut.CutStatus.{CutStatus}
use Rattle.numbers.specs.declared.cut.CutStatus.TheVariants.{Success, NoSoln, NoEffect}
use Rattle.numbers.specs.laws.Pick.{skip, is_hit, pick_cong, by_test, pick_map}
use Rattle.numbers.specs.Over.{over}
use Rattle.numbers.specs.laws.Over.{length_over, front_over}
use Rattle.oracles.specs.LowpassOracle.{group_side}
use Rattle.oracles.specs.Ell.{EllBuffers}
use Rattle.oracles.specs.declared.lowpass_oracle.Group.{Group}
use Rattle.oracles.specs.declared.lowpass_oracle.Group.TheVariants.{Pass, Stop, Middle, Sign}
use Rattle.drivers.specs.Text.{joined, hex}
use Rattle.drivers.specs.laws.Text.{length_decimal, length_hex, most_more, most_on, most_none, put_front, joined_append, joined_none, put_all}
use Rattle.drivers.specs.Trace.{group_word, row_text, side_word, beta_pieces, status_word, answer_pieces, outcome_word, last_pieces, ended_pieces, source_word, refused_text, text_room, printed, step_text, text_in}
use Rattle.drivers.specs.declared.trace.Source.{Source}
use Rattle.drivers.specs.declared.trace.Source.TheVariants.{Only, Job, Answer as OfAnswer}
use Rattle.drivers.specs.Run.{run_state, run_at, step_printed, limit_printed, next_tests, next_answer, run_text}
use Rattle.drivers.specs.CuttingPlane.{State, check_state}
use Rattle.drivers.specs.CuttingPlaneFeas.{feas_step, goes_on, feas_ended, feas_run, StepAnswer}
use Rattle.drivers.specs.laws.StepSound.{step_sound}
use Rattle.drivers.specs.declared.answer.Answer.{Answer}
use Rattle.numbers.specs.laws.Refusal.{held, at_next, accepts, failed, refuses}
use Rattle.drivers.specs.declared.run.Run.{Run}
use Rattle.drivers.specs.declared.run.Printed.{Printed}

-- ---- what calls of `Run::next` print

unfoldable pub cut_lines : ℕ → List Float → Float → ℕ → ℕ → State → List ℕ
cut_lines rows table tolerance zero k s = []
cut_lines rows table tolerance (suc left) k s =
    let r = feas_step rows table s in
    joined (answer_pieces k r.0) ++ pick (goes_on r.0 r.1.ell.tsq tolerance) (cut_lines rows table tolerance left (suc k) r.1) []

-- what a run has still to print
abbrev pub text_left : Run → List Float → EllBuffers → List Float → List ℕ
text_left run table b grad = run_text run.rows table run.options.tolerance (run.options.max_iters - run.niter) run.niter (run_state run b grad)

-- what so many calls of `next` print, one after the other, while there is more
unfoldable pub printed_by : ℕ → Run → List Float → EllBuffers → List Float → List ℕ → List ℕ
printed_by zero run table b grad out = []
printed_by (suc calls) run table b grad out =
    let p = next_answer run table b grad out in
    text_in p.0.text p.3 ++ pick p.0.more (printed_by calls p.0.run table p.1 p.2 p.3) []

-- ---- how long the texts are

group_most : (g : Group) → length (group_word g) ≤ 8
group_most (Pass row over) = omega arith
group_most (Stop row over) = omega arith
group_most (Middle row) = omega arith
group_most Sign = omega arith

row_most : (g : Group) → length (row_text g) ≤ 20
row_most (Pass row over) = length_decimal row
row_most (Stop row over) = length_decimal row
row_most (Middle row) = length_decimal row
row_most Sign = omega arith

side_most : (over : Bool) → length (side_word over) ≤ 7
side_most true = omega arith
side_most false = omega arith

hex_most : (w : ℕ) → length (hex w) ≤ 16
hex_most w = omega (arith, length_hex w)

betas_most : (beta : CutChoice) → length (joined (beta_pieces beta)) ≤ 33
betas_most (Single beta0) = most_more 16 17 _ _ (hex_most (bits_of beta0)) (most_more 2 15 _ _ (omega arith) (omega (arith, most_none)))
betas_most (Parallel beta0 beta1) =
    most_more 16 17 _ _ (hex_most (bits_of beta0)) (most_more 1 16 _ _ (omega arith) (most_more 16 0 _ _ (hex_most (bits_of beta1)) most_none))

status_most : (s : CutStatus) → length (status_word s) ≤ 10
status_most Success = omega arith
status_most NoSoln = omega arith
status_most NoEffect = omega arith

answer_most : (k : ℕ) (answer : StepAnswer) → length (joined (answer_pieces k answer)) ≤ 98
answer_most k (Ok None) = omega (arith, most_none)
answer_most k (Ok (Some made)) =
    most_more 20 78 _ _ (length_decimal k)
    (most_more 8 70 _ _ (group_most made.cut.group)
    (most_more 20 50 _ _ (row_most made.cut.group)
    (most_more 7 43 _ _ (side_most (group_side made.cut.group))
    (most_on 33 10 _ _ (betas_most made.cut.beta) (most_more 10 0 _ _ (status_most made.status) most_none)))))
answer_most k (Err why) = omega (arith, most_none)

outcome_most : (found : Bool) → length (outcome_word found) ≤ 6
outcome_most true = omega arith
outcome_most false = omega arith

pub last_most : (a : Answer) → length (joined (last_pieces a)) ≤ 27
last_most a = most_more 6 21 _ _ (outcome_most a.found) (most_more 20 1 _ _ (length_decimal a.steps) (most_more 1 0 _ _ (omega arith) most_none))

ended_most : (a : (Result Answer Refusal)) → length (joined (ended_pieces a)) ≤ 27
ended_most (Ok a) = last_most a
ended_most (Err why) = omega (arith, most_none)

source_most : (source : Source) → length (source_word source) ≤ 8
source_most Only = omega arith
source_most Job = omega arith
source_most OfAnswer = omega arith

pub refused_most : (source : Source) (why : Refusal) (place : ℕ) → length (refused_text source why place) ≤ 57
refused_most source why place =
    most_more 8 49 _ _ (omega arith)
    (most_more 20 29 _ _ (length_decimal (refusal_number why))
    (most_more 1 28 _ _ (omega arith) (most_more 20 8 _ _ (length_decimal place) (most_more 8 0 _ _ (source_most source) most_none))))

pub step_most : (k : ℕ) (more : Bool) (answer : StepAnswer) → length (step_text k more answer) ≤ 125
unfolding step_text
step_most k more answer =
    most_on 98 27 _ _ (answer_most k answer)
    (by_test (λ (ps : List (List ℕ)). length (joined ps) ≤ 27) more _ _ (λ _. omega (arith, most_none)) (λ _. ended_most (feas_ended answer k)))

-- ---- where they are written

pub not_printed_in : (text out : List ℕ) → length out < 128 → (Err Room, out) ≡ printed text out
unfolding printed
not_printed_in text out h = refuses _ _ (text_room out) (failed (lt-leb 128 (length out) h)) refl

pub printed_in : (out : List ℕ) (texts : List (List ℕ)) (r : ℕ × List ℕ) → 128 ≤ length out → length (joined texts) ≤ 128 → r ≡ put_all out 0 texts
    → (Ok r.0, r.1) ≡ printed (joined texts) out
unfolding printed
printed_in out texts r h l e =
    let f : length (joined texts) ≤ length out = omega arith in
    accepts _ _ (text_room out) (held _ _ (le-leb 128 (length out) h)) (ap (λ (q : ℕ × List ℕ). (Ok q.0, q.1)) (put_front out texts r f e))

-- a step's pieces, and those of the answer where it is the last
pub step_pieces : (out : List ℕ) (k : ℕ) (more : Bool) (answer : StepAnswer) (rest : List (List ℕ)) (r : ℕ × List ℕ) → 128 ≤ length out
    → rest ≡ pick more [] (ended_pieces (feas_ended answer k)) → r ≡ put_all out 0 (answer_pieces k answer ++ rest)
    → r ≡ (length (step_text k more answer), over out 0 (step_text k more answer))
unfolding step_text
step_pieces out k more answer rest r h e f =
    let l : length (step_text k more answer) ≤ length out = omega (arith, step_most k more answer) in
    put_front out _ r l (f ∙ ap (λ (ps : List (List ℕ)). put_all out 0 (answer_pieces k answer ++ ps)) e)

-- ---- the run

-- a step, and what the rest of the run prints
one_step : (k : ℕ) (more : Bool) (answer : StepAnswer) (text lines : List ℕ) (end : (Result Answer Refusal)) → text ≡ lines ++ joined (ended_pieces end)
    → step_text k more answer ++ pick more text [] ≡ (joined (answer_pieces k answer) ++ pick more lines []) ++ joined (ended_pieces (pick more end (feas_ended answer k)))
unfolding step_text pick
one_step k true answer text lines end e =
    let p = joined (answer_pieces k answer) in
    ap (λ (l : List ℕ). l ++ text) (joined_append (answer_pieces k answer) [])
    ∙ rw (joined_none, append-nil p, e) (sym (append_assoc p lines (joined (ended_pieces end))))
one_step k false answer text lines end e =
    rw (append-nil, append-nil) (joined_append (answer_pieces k answer) (ended_pieces (feas_ended answer k)))

module _ (rows : ℕ) (table : List Float) (tolerance : Float) where
  -- a run prints the lines of its cuts, and last the answer of `feas_run`, which `cutting_plane_feas` gives where it is not refused
  pub run_prints : (left k : ℕ) (s : State)
      → run_text rows table tolerance left k s ≡ cut_lines rows table tolerance left k s ++ joined (ended_pieces (feas_run rows table tolerance left k s).0)
  unfolding run_text cut_lines feas_run
  run_prints zero k s = refl
  run_prints (suc left) k s =
      let r = feas_step rows table s in
      let more = goes_on r.0 r.1.ell.tsq tolerance in
      one_step k more r.0 _ _ _ (run_prints left (suc k) r.1)
      ∙ ap (λ (a : (Result Answer Refusal)). (joined (answer_pieces k r.0) ++ pick more (cut_lines rows table tolerance left (suc k) r.1) []) ++ joined (ended_pieces a))
      (sym (pick_map (λ (p : Result Answer Refusal × State). p.0) more (feas_run rows table tolerance left (suc k) r.1) (feas_ended r.0 k, r.1)))

-- ---- its calls

module _ (run : Run) (table : List Float) (b : EllBuffers) (grad : List Float) (out : List ℕ) where
  -- a call prints the next part of what is left, and the rest is left where there is more
  abbrev pub Prints : Printed × EllBuffers × List Float × List ℕ → Type 0
  Prints p = text_left run table b grad ≡ text_in p.0.text p.3 ++ pick p.0.more (text_left p.0.run table p.1 p.2) []

  limit_prints : run.options.max_iters ≤ run.niter → Prints (limit_printed run b grad out)
  unfolding limit_printed run_text
  limit_prints h =
      let none : run.options.max_iters - run.niter ≡ 0 = omega arith in
      let text = joined (last_pieces (record { found = false; steps = run.niter })) in
      ap (λ (j : ℕ). run_text run.rows table run.options.tolerance j run.niter (run_state run b grad)) none
      ∙ sym (front_over out text) ∙ sym (append-nil (take (length text) (over out 0 text)))
      ∙ ap (λ (l : List ℕ). take (length text) (over out 0 text) ++ l) (skip false (text_left run table b grad) [] [] refl refl)

  step_prints : run.niter < run.options.max_iters → Prints (step_printed run table b grad out)
  unfolding step_printed run_text
  step_prints h =
      let k = run.niter in
      let m = run.options.max_iters in
      let some : m - k ≡ suc (m - suc k) = omega arith in
      let r = feas_step run.rows table (run_state run b grad) in
      let more = goes_on r.0 r.1.ell.tsq run.options.tolerance in
      let text = step_text k more r.0 in
      rw some
      (ap (λ (l : List ℕ). text ++ l)
      (pick_cong more
      (λ e. ap (λ (j : ℕ). run_text run.rows table run.options.tolerance (m - j) j r.1) (sym (is_hit more (suc k) k e)))
      (λ e. refl))
      ∙ ap (λ (l : List ℕ). l ++ pick more (text_left (run_at run r.1 (pick more (suc k) k)) table r.1.buffers r.1.grad) []) (sym (front_over out text)))

  -- what follows where there is more: another call, with fewer steps left
  record Goes (p : Printed × EllBuffers × List Float × List ℕ) : Type 0 where
    sound : check_state p.0.run.rows table (run_state p.0.run p.1 p.2) ≡ Sound
    room : 128 ≤ length p.3
    fewer : p.0.run.options.max_iters - p.0.run.niter < run.options.max_iters - run.niter

  module _ (e : check_state run.rows table (run_state run b grad) ≡ Sound) (h : 128 ≤ length out) where
    by_next : (P : Printed × EllBuffers × List Float × List ℕ → Type 0) → (run.niter < run.options.max_iters → P (step_printed run table b grad out))
        → (run.options.max_iters ≤ run.niter → P (limit_printed run b grad out)) → P (next_answer run table b grad out)
    unfolding next_answer
    by_next P f g =
        subst P (accepts _ _ (next_tests run table b grad out) (at_next (sym e) (held _ _ (le-leb 128 (length out) h))) refl)
        (by_test P (ltb run.niter run.options.max_iters) _ _
        (λ l. f (ltb-true run.niter run.options.max_iters l))
        (λ l. g (ltb-false run.niter run.options.max_iters l)))

    pub next_prints : Prints (next_answer run table b grad out)
    next_prints = by_next Prints step_prints limit_prints

    step_goes : run.niter < run.options.max_iters → (step_printed run table b grad out).0.more ≡ true → Goes (step_printed run table b grad out)
    unfolding step_printed
    step_goes l m =
        let k = run.niter in
        let s = run_state run b grad in
        let r = feas_step run.rows table s in
        let text = step_text k (goes_on r.0 r.1.ell.tsq run.options.tolerance) r.0 in
        let next : pick (goes_on r.0 r.1.ell.tsq run.options.tolerance) (suc k) k ≡ suc k = is_hit _ (suc k) k m in
        record {
          sound = (step_sound run.rows table s e).sound;
          room = rw (length_over out 0 text (omega (arith, step_most k (goes_on r.0 r.1.ell.tsq run.options.tolerance) r.0))) h;
          fewer = omega (arith, next);
        }

    next_goes : (next_answer run table b grad out).0.more ≡ true → Goes (next_answer run table b grad out)
    unfolding limit_printed
    next_goes = by_next (λ p. p.0.more ≡ true → Goes p) step_goes (λ l m. absurd (true≢false (sym m)))

-- enough calls of `next` print all of a run that passes the check
pub calls_print : (calls : ℕ) (run : Run) (table : List Float) (b : EllBuffers) (grad : List Float) (out : List ℕ)
    → check_state run.rows table (run_state run b grad) ≡ Sound → 128 ≤ length out → run.options.max_iters - run.niter < calls
    → printed_by calls run table b grad out ≡ text_left run table b grad
unfolding printed_by
calls_print zero run table b grad out e h l = absurd (omega (arith, l))
calls_print (suc calls) run table b grad out e h l =
    let p = next_answer run table b grad out in
    ap (λ (rest : List ℕ). text_in p.0.text p.3 ++ rest)
    (pick_cong p.0.more
    (λ m.
    let g = next_goes run table b grad out e h m in
    calls_print calls p.0.run table p.1 p.2 p.3 g.sound g.room (omega (arith, g.fewer)))
    (λ _. refl))
    ∙ sym (next_prints run table b grad out e h)

-- so a run from its first step on prints the lines of its cuts, and last the answer of `feas_run`
pub run_printed : (run : Run) (table : List Float) (b : EllBuffers) (grad : List Float) (out : List ℕ)
    → check_state run.rows table (run_state run b grad) ≡ Sound → 128 ≤ length out → run.niter ≡ 0
    → (let m = run.options.max_iters in
    let t = run.options.tolerance in
    let s = run_state run b grad in
    printed_by (m + 1) run table b grad out ≡ cut_lines run.rows table t m 0 s ++ joined (ended_pieces (feas_run run.rows table t m 0 s).0))
run_printed run table b grad out e h z =
    let m = run.options.max_iters in
    let left : m - run.niter ≡ m = omega arith in
    calls_print (m + 1) run table b grad out e h (omega arith)
    ∙ (λ i. run_text run.rows table run.options.tolerance (left i) (z i) (run_state run b grad))
    ∙ run_prints run.rows table run.options.tolerance m 0 (run_state run b grad)
