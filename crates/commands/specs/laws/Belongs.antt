-- Laws of Belongs: what `belongs` answers of the slices is what the definition says of the bytes. Assumes nothing.
use Rattle.numbers.specs.declared.refusal.Refusal.{Refusal}
use Rattle.drivers.specs.Trace.{Text, text_in}
use Rattle.std.specs.Prelude.{ℕ, ◌*◌, ◌≤◌, ◌≡◌, refl, Bool, false, ◌&&◌, length, take, Float, Err, Ok, Result}
use Rattle.std.proofs.Common.{sym, ◌∙◌}
use Rattle.std.proofs.Math.Path.{ap}
use Rattle.std.proofs.Math.Bool.{true}
use mathlib.Core.List.{List, []}
use borrow.Author.Tests.{eq-eqb}
use Rattle.std.proofs.Math.Dec.{eqb}
use Rattle.numbers.specs.Pick.{pick}
use Rattle.numbers.specs.laws.Arr.{length_tab}
use Rattle.numbers.specs.laws.Pick.{is_hit, pick_cong}
use Rattle.numbers.specs.laws.Refusal.{accepts}
use Rattle.oracles.specs.Table.{table_fits}
use Rattle.oracles.specs.laws.Assess.{fits_oracle}
use Rattle.streams.specs.declared.output.Stream.TheVariants.{Stdout, Stderr}
use Rattle.drivers.specs.Text.{bytes_of}
use Rattle.drivers.specs.Record.{fronted, numbers_at, number_at, place}
use Rattle.drivers.specs.Rules.{found_place}
use Rattle.drivers.specs.Job.{job_oracle}
use Rattle.drivers.specs.Answer.{has_point, answer_at, point_at, answer_walk}
use Rattle.drivers.specs.Belongs.{feasible_for, is_of, belongs_tests, belongs_answer}
use Rattle.drivers.specs.Input.{take_answer_answer}
use Rattle.drivers.specs.laws.Job.{JobSound}
use Rattle.drivers.specs.laws.JobRuns.{front_is}
use Rattle.drivers.specs.declared.answer.Answer.{Answer}
use Rattle.drivers.specs.declared.job.Job.{Job}
use Rattle.commands.specs.Output.{Written, nothing_written}
use Rattle.commands.specs.Belongs.{yes_or_no, judged_written}
use Rattle.commands.specs.laws.Taken.{AnswerIs, judges, answer_refused_is}

-- what is said of what `belongs` answered
abbrev pub said : Result Bool Refusal → Written
said (Ok true) = (Stdout, bytes_of "yes\n")
said (Ok false) = (Stdout, bytes_of "no\n")
said (Err why) = nothing_written

said_so : (t : Bool) → said (Ok t) ≡ yes_or_no t
unfolding pick
said_so true = refl
said_so false = refl

-- a point of the answer counts only if it was found
same_point : (j : Job) (table x : List Float) (a : Answer) (p q : List Float) → (a.found ≡ true → p ≡ q) → is_of j table x a p ≡ is_of j table x a q
same_point j table x a p q h = pick_cong a.found (λ f. ap (feasible_for j table) (h f)) (λ _. refl)

-- and then it is the front of what it was read into
point_read : (n : ℕ) (bytes places : List ℕ) (point : List Float) → has_point places ≡ true → take n (fronted (point_at n bytes places) point) ≡ point_at n bytes places
point_read n bytes places point h =
    front_is (point_at n bytes places) point n
    (ap length (is_hit (has_point places) (numbers_at bytes (place places found_place) n) [] h) ∙ length_tab (λ k. number_at bytes (place places found_place) k) n)

module _ (j : Job) (h : JobSound j) (table x grad : List Float) (t : length table ≡ j.rows * j.n) (xl : length x ≡ j.n) (g : length grad ≡ j.n) where
  -- no job that was read is refused
  answered : (a : Answer) (p : List Float) → length p ≡ j.n → (belongs_answer j table x a p grad).0 ≡ Ok (is_of j table x a p)
  unfolding belongs_answer
  answered a p l =
      let fit : (table_fits j.n j.rows table x && eqb (length p) j.n && eqb (length grad) j.n) ≡ true =
      rw (eq-eqb (length table) (j.rows * j.n) t, eq-eqb (length x) j.n xl, eq-eqb (length p) j.n l, eq-eqb (length grad) j.n g) in
      ap (λ (r : Result Bool Refusal × List Float). r.0)
      (sym (accepts _ _ (belongs_tests j table x p grad) (fits_oracle (job_oracle j) j.n j.rows _ (record { dimension = h.dimension; long = fit; bands = h.bands; cursors = h.cursors })) refl))

  pub judged_is : (bytes : List ℕ) (point : List Float) (out : List ℕ) (a : Answer) (point' : List Float) (out' : List ℕ) → j.n ≤ length point → AnswerIs j.n bytes point out a point' out'
      → length (take j.n point') ≡ j.n → (b : (Result Bool Refusal)) (grad' : List Float) → (b, grad') ≡ belongs_answer j table x a (take j.n point') grad → said b ≡ judged_written j table x bytes
  unfolding judged_written
  judged_is bytes point out a point' out' room is l b grad' e =
      let n = j.n in
      let places = (answer_walk bytes).1 in
      ap said (ap (λ (r : Result Bool Refusal × List Float). r.0) e ∙ answered a (take n point') l)
      ∙ said_so (is_of j table x a (take n point'))
      ∙ ap yes_or_no
      (rw (is.answer_is, is.point_is)
      (same_point j table x (answer_at bytes places) (take n (fronted (point_at n bytes places) point)) (point_at n bytes places) (point_read n bytes places point)))
      ∙ judges n bytes point out room is _

-- an answer that is not taken
pub refused_judged : (j : Job) (table x : List Float) (bytes : List ℕ) (point : List Float) (out : List ℕ) → j.n ≤ length point → 128 ≤ length out
    → (text : Text) (point' : List Float) (out' : List ℕ) → (Err text, point', out') ≡ take_answer_answer j.n bytes point out → (Stderr, text_in text out') ≡ judged_written j table x bytes
unfolding judged_written
refused_judged j table x bytes point out h room text point' out' e = answer_refused_is j.n bytes point out h room text point' out' e _
