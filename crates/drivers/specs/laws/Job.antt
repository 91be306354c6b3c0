-- Laws of jobs: what a record without a fault has. Assumes nothing.
use Rattle.std.specs.Prelude.{◌≡◌, true, false, ◌&&◌, List, ℕ, ◌≤◌, leb, eqb, ℤ, pos, ◌-ℤ◌, is_err}
use Rattle.std.proofs.Common.{sym, subst, ◌∙◌, leb-true}
use Rattle.numbers.specs.Arr.{is_dimension}
use Rattle.numbers.specs.laws.Arr.{dimension_most}
use Rattle.numbers.specs.declared.refusal.Refusal.TheVariants.{Dimension, Length, Band, Cursor}
use Rattle.numbers.specs.laws.Pick.{is_hit, and_parts}
use Rattle.numbers.specs.Refusal.{◌⨾◌, ask_at, Sound, Tests}
use Rattle.numbers.specs.laws.Refusal.{no_fault, both_sound, ask_sound}
use Rattle.oracles.specs.Scan.{none}
use Rattle.oracles.specs.LowpassOracle.{start_oracle, bands_fit, cursors_fit}
use Rattle.oracles.specs.laws.Bands.{BandParts, band_parts}
use Rattle.oracles.specs.laws.Start.{start_before}
use Rattle.oracles.specs.declared.lowpass_oracle.LowpassOracle.{LowpassOracle}
use Rattle.drivers.specs.Record.{size_fault, length_at, start_of, half_at, fields_of, lengths_fault, place}
use Rattle.drivers.specs.Job.{row_end, job_oracle, job_at, job_walk, job_fault}
use Rattle.drivers.specs.declared.job.Job.{Job}
use Rattle.drivers.specs.Rules.{rule_length, bands_place, cursors_place, n_place}

-- ---- the tests behind the walk, as the code makes them: of the job's oracle, and before those tag 01's and the other lengths

abbrev pub oracle_fault : Job → List ℕ → Tests
oracle_fault j places =
    ask_at (start_of (place places bands_place)) (bands_fit (job_oracle j) j.rows) Band
    ⨾ ask_at (start_of (place places cursors_place)) (cursors_fit (job_oracle j)) Cursor

abbrev pub content_fault : List ℕ → List ℕ → Tests
content_fault bytes places =
    let j = job_at bytes places in
    size_fault n_place 2 bytes (place places n_place) ⨾ lengths_fault j.n bytes (fields_of bytes) ⨾ oracle_fault j places

-- the range of a dimension that no fault comes from
pub size_sound : (rule least : ℕ) (bytes : List ℕ) (p : ℕ) → size_fault rule least bytes p ≡ Sound → (leb least (half_at bytes p) && leb (half_at bytes p) 32) ≡ true
unfolding size_fault
size_sound rule least bytes p e =
    let own = ask_at (start_of p) (eqb (length_at bytes (start_of p)) (rule_length rule 0)) Length in
    let range = ask_at (start_of p) (leb least (half_at bytes p) && leb (half_at bytes p) 32) Dimension in
    ask_sound _ Dimension (start_of p) (both_sound own range e).1

pub size_small : (rule least : ℕ) (bytes : List ℕ) (p : ℕ) (f : Tests) → f ≡ size_fault rule least bytes p → is_err f ≡ false → half_at bytes p ≤ 32
size_small rule least bytes p f e t = leb-true (half_at bytes p) 32 (and_parts (leb least (half_at bytes p)) _ (size_sound rule least bytes p (sym e ∙ no_fault f t))).1

-- ---- what a job has that is read

pub record JobSound (j : Job) : Type 0 where
  pub dimension : is_dimension j.n ≡ true
  pub bands : bands_fit (job_oracle j) j.rows ≡ true
  pub cursors : cursors_fit (job_oracle j) ≡ true

-- the parts of refusal 3's test
pub job_bands : (j : Job) → JobSound j → BandParts (job_oracle j) j.rows
job_bands j h = band_parts (job_oracle j) j.rows h.bands

pub rows_from : (j : Job) → JobSound j → 1 ≤ j.rows
rows_from j h = (job_bands j h).least

pub rows_to : (j : Job) → JobSound j → j.rows ≤ 1024
rows_to j h = (job_bands j h).most

-- its last band ends after the last row
pub row_end_is : (j : Job) → JobSound j → row_end j.rows ≡ pos j.rows
row_end_is j h = is_hit _ _ _ (job_bands j h).rows_held

-- Document 01: each idx of its oracle starts at its band's lo − 1.
pub job_starts : (j : Job) → JobSound j → ((job_oracle j).idx1 ≡ none) × ((job_oracle j).idx2 ≡ j.nwpass -ℤ pos 1) × ((job_oracle j).idx3 ≡ j.nwstop -ℤ pos 1)
job_starts j h =
    subst (λ (z : ℤ). let o = oracle_to z in bands_fit o j.rows ≡ true → (o.idx1 ≡ none) × (o.idx2 ≡ j.nwpass -ℤ pos 1) × (o.idx3 ≡ j.nwstop -ℤ pos 1)) (sym (row_end_is j h))
    (start_before j.nwpass j.nwstop j.cur1 j.cur2 j.cur3 j.lp_sq j.up_sq j.sp_sq j.rows) h.bands
  where
    oracle_to : ℤ → LowpassOracle
    oracle_to z = start_oracle j.nwpass j.nwstop z j.cur1 j.cur2 j.cur3 j.lp_sq j.up_sq j.sp_sq

pub n_to : (j : Job) → JobSound j → j.n ≤ 32
n_to j h = dimension_most j.n h.dimension

-- A record without a fault says a job that passes the tests of every run.
pub sound_job : (bytes : List ℕ) → job_fault bytes ≡ Sound → JobSound (job_at bytes (job_walk bytes).1)
unfolding job_fault job_at
sound_job bytes e =
    let places = (job_walk bytes).1 in
    let j = job_at bytes places in
    let f₁ = size_fault n_place 2 bytes (place places n_place) in
    let f₂ = lengths_fault j.n bytes (fields_of bytes) in
    let f₃ = ask_at (start_of (place places bands_place)) (bands_fit (job_oracle j) j.rows) Band in
    let f₄ = ask_at (start_of (place places cursors_place)) (cursors_fit (job_oracle j)) Cursor in
    let s₁ = both_sound f₁ (f₂ ⨾ oracle_fault j places) (both_sound (job_walk bytes).0 (content_fault bytes places) e).1 in
    let s₃ = both_sound f₃ f₄ (both_sound f₂ (oracle_fault j places) s₁.1).1 in
    record {
      dimension = size_sound n_place 2 bytes (place places n_place) s₁.0;
      bands = ask_sound _ Band _ s₃.0;
      cursors = ask_sound _ Cursor _ s₃.1;
    }
