-- `drivers::job::oracle_fault` meets its contract. Assumes nothing.
use Rattle.numbers.specs.Refusal.{At, Sound}
use mathlib.Core.Path.{◌≡◌, ap, ◌∙◌}
use mathlib.Core.Bool.{Bool, true, false, not}
use mathlib.Core.List.{List}
use Prim.Native.Nat.{ℕ}
use Rattle.numbers.specs.declared.refusal.Refusal.TheVariants.{Band, Cursor}
use Rattle.numbers.specs.laws.Pick.{says_no, says_yes}
use Rattle.numbers.specs.laws.Refusal.{failed, held, at_first, at_next}
use Rattle.oracles.specs.LowpassOracle.{bands_fit, cursors_fit}
use Rattle.oracles.specs.declared.lowpass_oracle.LowpassOracle.{LowpassOracle}
use Rattle.drivers.specs.Rules.{bands_place, cursors_place}
use Rattle.drivers.specs.Record.{start_of, place}
use Rattle.drivers.specs.Job.{job_oracle}
use Rattle.drivers.specs.laws.Job.{oracle_fault}
use Rattle.drivers.specs.declared.job.Job.{Job}
use Rattle.drivers.proofs.job.oracle_fault.Goals as goal

module _ (j : Job) (places : List ℕ) (o : LowpassOracle) (d : o ≡ job_oracle j) (b : Bool) (e : b ≡ bands_fit o j.rows) where
  bands : b ≡ bands_fit (job_oracle j) j.rows
  bands = e ∙ ap (λ (z : LowpassOracle). bands_fit z j.rows) d

  at_bands : not b ≡ true → (q : ℕ) → q ≡ start_of (place places bands_place) → At Band q ≡ oracle_fault j places
  at_bands h q s = ap (At Band) s ∙ at_first _ (failed (says_no _ _ bands h))

  module _ (h : not b ≡ false) (k : Bool) (f : k ≡ cursors_fit o) where
    cursors : k ≡ cursors_fit (job_oracle j)
    cursors = f ∙ ap cursors_fit d

    at_cursors : not k ≡ true → (q : ℕ) → q ≡ start_of (place places cursors_place) → At Cursor q ≡ oracle_fault j places
    at_cursors i q s = ap (At Cursor) s ∙ at_next (held _ _ (says_yes _ _ bands h)) (failed (says_no _ _ cursors i))

    no_fault : not k ≡ false → Sound ≡ oracle_fault j places
    no_fault i = at_next (held _ _ (says_yes _ _ bands h)) (held _ _ (says_yes _ _ cursors i))

pub returns-then-not-bands_fit : goal.returns-then-not-bands_fit
returns-then-not-bands_fit c =
    let a = c.args in
    at_bands a.job a.places.now _ c.oracle-oracle.ensures _ c.bands_fit.ensures (ap not c.if-not-bands_fit.true) _ c.start_of.ensures

pub returns-then-not-cursors_fit : goal.returns-then-not-cursors_fit
returns-then-not-cursors_fit c =
    let a = c.args in
    at_cursors a.job a.places.now _ c.oracle-oracle.ensures _ c.bands_fit.ensures (ap not c.if-not-bands_fit.false) _ c.cursors_fit.ensures (ap not c.if-not-cursors_fit.true) _ c.start_of-then-not-cursors_fit.ensures

pub returns : goal.returns
returns c =
    let a = c.args in
    no_fault a.job a.places.now _ c.oracle-oracle.ensures _ c.bands_fit.ensures (ap not c.if-not-bands_fit.false) _ c.cursors_fit.ensures (ap not c.if-not-cursors_fit.false)
