-- `drivers::write_job::write_job` meets its contract. Assumes nothing.
use Prim.Native.Nat.{ℕ, ◌*◌}
use mathlib.Core.Path.{◌≡◌, sym, ap, ◌∙◌}
use mathlib.Core.Bool.{Bool, ◌&&◌}
use mathlib.Core.List.{List, map}
use borrow.Author.Tests.{leb-true}
use lib.Dec.{eqb, leb}
use lib.ListN.{length}
use lib.Ieee.{Float}
use Rattle.std.specs.Prelude.{Ok, Err, Result, ⊤}
use Rattle.numbers.specs.Over.{over}
use Rattle.numbers.specs.Arr.{is_dimension}
use Rattle.numbers.specs.Refusal.{◌⨾◌, ask, asked, At, Sound, Tests}
use Rattle.numbers.specs.declared.refusal.Refusal.{Refusal}
use Rattle.numbers.specs.declared.refusal.Refusal.TheVariants.{Dimension, Length, Band, Cursor, Room}
use Rattle.numbers.specs.laws.Refusal.{at_first, at_next, asked_fault, asked_sound, asked_ok, exits, accepts}
use Rattle.oracles.specs.LowpassOracle.{bands_fit, cursors_fit}
use Rattle.oracles.specs.declared.lowpass_oracle.LowpassOracle.{LowpassOracle}
use Rattle.drivers.specs.Fields.{field_bytes}
use Rattle.drivers.specs.Job.{FullJob, job_oracle}
use Rattle.drivers.specs.WriteJob.{with_numbers, job_fields, job_bytes, job_size, numbers_fit, write_job_tests, write_job_answer}
use Rattle.drivers.specs.declared.job.Job.{Job}
use Rattle.drivers.specs.laws.JobBytes.{job_long, numbers_long}
use Rattle.drivers.specs.laws.Text.{put_front, put_all}
use Rattle.drivers.proofs.write_job.write_job.Goals as goal

-- ---- the tests as the code makes them, by their answers: d for n, l for the lengths, b for the bands, k for the cursors, r for the room

module _ (j : Job) (table x m : List Float) (out : List ℕ) where
  abbrev f : FullJob
  f = with_numbers j table x m

  module _ {d : Result ⊤ Refusal} (d_is : d ≡ asked (is_dimension j.n) Dimension) where
    at_dimension : {e : Refusal} → d ≡ Err e → At e 0 ≡ write_job_tests f out
    at_dimension w = at_first _ (at_first _ (at_first _ (asked_fault _ _ d_is w)))

    module _ {u : ⊤} (du : d ≡ Ok u) {l : Result ⊤ Refusal} (tl : Bool) (tl_is : tl ≡ (eqb (length table) (j.rows * j.n) && eqb (length x) j.n))
        (l_is : l ≡ asked (tl && eqb (length m) (j.n * j.n)) Length) where
      fit : l ≡ asked (numbers_fit f) Length
      fit = l_is ∙ ap (λ (t : Bool). asked (t && eqb (length m) (j.n * j.n)) Length) tl_is

      at_lengths : {e : Refusal} → l ≡ Err e → At e 0 ≡ write_job_tests f out
      at_lengths w = at_first _ (at_first _ (at_next (asked_sound _ _ d_is du) (asked_fault _ _ fit w)))

      module _ {v : ⊤} (lv : l ≡ Ok v) (o : LowpassOracle) (o_is : o ≡ job_oracle j) {b : Result ⊤ Refusal} (tb : Bool) (tb_is : tb ≡ bands_fit o j.rows) (b_is : b ≡ asked tb Band) where
        sizes : Sound ≡ (ask (is_dimension j.n) Dimension ⨾ ask (numbers_fit f) Length)
        sizes = at_next (asked_sound _ _ d_is du) (asked_sound _ _ fit lv)

        banded : b ≡ asked (bands_fit (job_oracle j) j.rows) Band
        banded = b_is ∙ ap (λ (t : Bool). asked t Band) (tb_is ∙ ap (λ (o : LowpassOracle). bands_fit o j.rows) o_is)

        at_bands : {e : Refusal} → b ≡ Err e → At e 0 ≡ write_job_tests f out
        at_bands w = at_first _ (at_next sizes (at_first _ (asked_fault _ _ banded w)))

        module _ {w : ⊤} (bw : b ≡ Ok w) {k : Result ⊤ Refusal} (tk : Bool) (tk_is : tk ≡ cursors_fit o) (k_is : k ≡ asked tk Cursor) where
          placed : k ≡ asked (cursors_fit (job_oracle j)) Cursor
          placed = k_is ∙ ap (λ (t : Bool). asked t Cursor) (tk_is ∙ ap cursors_fit o_is)

          at_cursors : {e : Refusal} → k ≡ Err e → At e 0 ≡ write_job_tests f out
          at_cursors w = at_first _ (at_next sizes (at_next (asked_sound _ _ banded bw) (asked_fault _ _ placed w)))

          module _ {y : ⊤} (ky : k ≡ Ok y) (size : ℕ) (size_is : size ≡ job_size j.n j.rows) {r : Result ⊤ Refusal} (r_is : r ≡ asked (leb size (length out)) Room) where
            roomy : r ≡ asked (leb (length (job_bytes f)) (length out)) Room
            roomy = r_is ∙ ap (λ (k : ℕ). asked (leb k (length out)) Room) (size_is ∙ sym (job_long f (numbers_long f (asked_ok _ _ fit lv))))

            accepted : {t : Tests} → t ≡ ask (leb (length (job_bytes f)) (length out)) Room → t ≡ write_job_tests f out
            accepted = at_next (at_next sizes (at_next (asked_sound _ _ banded bw) (asked_sound _ _ placed ky)))

            at_room : {e : Refusal} → r ≡ Err e → At e 0 ≡ write_job_tests f out
            at_room w = accepted (asked_fault _ _ roomy w)

            written : {z : ⊤} → r ≡ Ok z → (p : ℕ × List ℕ) → p ≡ put_all out 0 (map field_bytes (job_fields f)) → (Ok p.0, p.1) ≡ write_job_answer f out
            unfolding over write_job_answer
            written w p e =
                accepts _ _ (write_job_tests f out) (accepted (asked_sound _ _ roomy w))
                (ap (λ (q : ℕ × List ℕ). (Ok q.0, q.1)) (put_front out (map field_bytes (job_fields f)) p (leb-true _ _ (asked_ok _ _ roomy w)) e))

pub returns-in_err-dimension : goal.returns-in_err-dimension
unfolding over write_job_answer
returns-in_err-dimension c =
    let a = c.args in
    exits (λ r. (r, a.out.now)) _ _ c.from_residual.ensures.1 (at_dimension a.job a.table.now a.xc.now a.mq.now a.out.now c.dimension.ensures.value c.in_err-dimension.was)

pub returns-in_err-lengths : goal.returns-in_err-lengths
unfolding over write_job_answer
returns-in_err-lengths c =
    let a = c.args in
    exits (λ r. (r, a.out.now)) _ _ c.from_residual-in_err-lengths.ensures.1
    (at_lengths a.job a.table.now a.xc.now a.mq.now a.out.now c.dimension.ensures.value c.in_ok-dimension.was _ c.table_fits.ensures c.lengths.ensures.value c.in_err-lengths.was)

pub returns-in_err-ask : goal.returns-in_err-ask
unfolding over write_job_answer
returns-in_err-ask c =
    let a = c.args in
    exits (λ r. (r, a.out.now)) _ _ c.from_residual-in_err-ask.ensures.1
    (at_bands a.job a.table.now a.xc.now a.mq.now a.out.now c.dimension.ensures.value c.in_ok-dimension.was _ c.table_fits.ensures c.lengths.ensures.value c.in_ok-lengths.was
    _ c.oracle-oracle.ensures _ c.bands_fit.ensures c.ask.ensures.value c.in_err-ask.was)

pub returns-in_err-ask-2 : goal.returns-in_err-ask-2
unfolding over write_job_answer
returns-in_err-ask-2 c =
    let a = c.args in
    exits (λ r. (r, a.out.now)) _ _ c.from_residual-in_err-ask-2.ensures.1
    (at_cursors a.job a.table.now a.xc.now a.mq.now a.out.now c.dimension.ensures.value c.in_ok-dimension.was _ c.table_fits.ensures c.lengths.ensures.value c.in_ok-lengths.was
    _ c.oracle-oracle.ensures _ c.bands_fit.ensures c.ask.ensures.value c.in_ok-ask.was _ c.cursors_fit.ensures c.ask-2.ensures.value c.in_err-ask-2.was)

pub returns-in_err-ask-3 : goal.returns-in_err-ask-3
unfolding over write_job_answer
returns-in_err-ask-3 c =
    let a = c.args in
    exits (λ r. (r, a.out.now)) _ _ c.from_residual-in_err-ask-3.ensures.1
    (at_room a.job a.table.now a.xc.now a.mq.now a.out.now c.dimension.ensures.value c.in_ok-dimension.was _ c.table_fits.ensures c.lengths.ensures.value c.in_ok-lengths.was
    _ c.oracle-oracle.ensures _ c.bands_fit.ensures c.ask.ensures.value c.in_ok-ask.was _ c.cursors_fit.ensures c.ask-2.ensures.value c.in_ok-ask-2.was
    _ c.job_size.ensures c.ask-3.ensures.value c.in_err-ask-3.was)

pub returns : goal.returns
returns c =
    let a = c.args in
    written a.job a.table.now a.xc.now a.mq.now a.out.now c.dimension.ensures.value c.in_ok-dimension.was _ c.table_fits.ensures c.lengths.ensures.value c.in_ok-lengths.was
    _ c.oracle-oracle.ensures _ c.bands_fit.ensures c.ask.ensures.value c.in_ok-ask.was _ c.cursors_fit.ensures c.ask-2.ensures.value c.in_ok-ask-2.was
    _ c.job_size.ensures c.ask-3.ensures.value c.in_ok-ask-3.was _ c.put_job.ensures
