-- The job record (document 01, "Job and answer records"): what its reader refuses, and what it reads. Definitions only.
use Rattle.numbers.specs.declared.refusal.Fault.{Fault}
use Rattle.std.specs.Prelude.{ℕ, ◌*◌, ◌/◌, ◌%◌, ◌^◌, Bool, ◌&&◌, List, leb, ltb, length, drop, ℤ, pos, ◌-ℤ◌, Float, Ok, Result}
use Rattle.numbers.specs.Pick.{pick}
use Rattle.numbers.specs.Bits.{float_of, word_at}
use Rattle.numbers.specs.declared.refusal.Refusal.TheVariants.{Band, Cursor, Room}
use Rattle.numbers.specs.Refusal.{◌⨾◌, unless, ask_at, ask, Tests, At}
use Rattle.oracles.specs.Scan.{none}
use Rattle.oracles.specs.Table.{is_rows}
use Rattle.oracles.specs.LowpassOracle.{start_oracle, bands_fit, cursors_fit}
use Rattle.oracles.specs.declared.lowpass_oracle.LowpassOracle.{LowpassOracle}
use Rattle.drivers.specs.Record.{start_of, half_at, number_at, numbers_at, fields_of, no_places, place, record_fault, size_fault, lengths_fault, row_count, rows_of, fronted}
use Rattle.drivers.specs.declared.cutting_plane.Options.{Options}
use Rattle.drivers.specs.declared.job.Job.{Job}
use Rattle.drivers.specs.Rules.{n_place, bands_place, limits_place, point_place, cursors_place, kappa_place, matrix_place, settings_place, job_form}

-- part k of a word of 16-bit numbers, the lowest first
abbrev pub part_of : ℕ → ℕ → ℕ
part_of w k = w / 65536 ^ k % 65536

-- a 16-bit number as a signed one
unfoldable pub signed : ℕ → ℤ
signed h = pick (ltb h 32768) (pos h) (pos h -ℤ pos 65536)

-- ---- the job

-- the end of the stop rows; −1 where no table has so many rows, and every call refuses the job
abbrev pub row_end : ℕ → ℤ
row_end rows = pick (is_rows rows) (pos rows) none

-- `Job::oracle`: what a job's oracle starts with
abbrev pub job_oracle : Job → LowpassOracle
job_oracle j = start_oracle j.nwpass j.nwstop (row_end j.rows) j.cur1 j.cur2 j.cur3 j.lp_sq j.up_sq j.sp_sq

-- a job with its numbers: the rows one after the other, the point, and the matrix row by row
pub record FullJob : Type 0 where
  pub job : Job
  pub table : List Float
  pub point : List Float
  pub matrix : List Float

-- ---- what a record says; `places` has where the contents begin, tag 01's first

-- the step limit, and the tolerance two bytes on
unfoldable pub options_of : List ℕ → ℕ → Options
options_of bytes p = record { max_iters = half_at (drop p bytes) 0; tolerance = float_of (word_at (drop p bytes) 2) }

-- the job, beside its three lists
unfoldable pub job_at : List ℕ → List ℕ → Job
job_at bytes places =
    let bands = word_at bytes (place places bands_place) in
    let limits = place places limits_place in
    let curs = word_at bytes (place places cursors_place) in
    record {
      n = half_at bytes (place places n_place);
      rows = row_count bytes (fields_of bytes);
      nwpass = pos (part_of bands 0);
      nwstop = pos (part_of bands 1);
      lp_sq = number_at bytes limits 0;
      up_sq = number_at bytes limits 1;
      sp_sq = number_at bytes limits 2;
      cur1 = signed (part_of curs 0);
      cur2 = signed (part_of curs 1);
      cur3 = signed (part_of curs 2);
      kappa = number_at bytes (place places kappa_place) 0;
      options = options_of bytes (place places settings_place);
    }

-- with them
unfoldable pub full_job_at : List ℕ → List ℕ → FullJob
full_job_at bytes places =
    let j = job_at bytes places in
    record {
      job = j;
      table = rows_of j.n bytes (fields_of bytes);
      point = numbers_at bytes (place places point_place) j.n;
      matrix = numbers_at bytes (place places matrix_place) (j.n * j.n);
    }

-- the walk over tags 01 to 09, and 10, with the places that it notes
abbrev pub job_walk : List ℕ → Tests × List ℕ
job_walk bytes = record_fault bytes job_form no_places

-- what the bytes of a record say
abbrev pub full_job : List ℕ → FullJob
full_job bytes = full_job_at bytes (job_walk bytes).1

-- ---- the tests

-- the first fault of a record, in document 01's order: the walk and 10, tag 01, the other lengths, 3 at tag 02, 4 at tag 06
unfoldable pub job_fault : List ℕ → Tests
job_fault bytes =
    let places = (job_walk bytes).1 in
    let j = job_at bytes places in
    (job_walk bytes).0
    ⨾ size_fault n_place 2 bytes (place places n_place)
    ⨾ lengths_fault j.n bytes (fields_of bytes)
    ⨾ ask_at (start_of (place places bands_place)) (bands_fit (job_oracle j) j.rows) Band
    ⨾ ask_at (start_of (place places cursors_place)) (cursors_fit (job_oracle j)) Cursor

-- 11, behind them: what the outputs for rows, point and matrix must hold
abbrev pub has_room : Job → ℕ → ℕ → ℕ → Bool
has_room j table xc mq = leb (j.rows * j.n) table && leb j.n xc && leb (j.n * j.n) mq

abbrev pub room_fault : Job → ℕ → ℕ → ℕ → Tests
room_fault j table xc mq = ask (has_room j table xc mq) Room

-- ---- the reader

-- what it refuses: the record's fault, then 11
abbrev pub read_tests : FullJob → Tests → List Float → List Float → List Float → Tests
read_tests f fault table xc mq = fault ⨾ room_fault f.job (length table) (length xc) (length mq)

-- a job put to the fronts of three slices, if nothing is at fault and they have room; else they stay
abbrev pub read_into : FullJob → Tests → List Float → List Float → List Float → Result Job Fault × List Float × List Float × List Float
read_into f fault table xc mq =
    unless (read_tests f fault table xc mq) (λ why place. (At why place, table, xc, mq))
    (Ok f.job, fronted f.table table, fronted f.point xc, fronted f.matrix mq)

-- `read_job`
abbrev pub read_job_tests : List ℕ → List Float → List Float → List Float → Tests
read_job_tests bytes table xc mq = read_tests (full_job bytes) (job_fault bytes) table xc mq

unfoldable pub read_job_answer : List ℕ → List Float → List Float → List Float → Result Job Fault × List Float × List Float × List Float
read_job_answer bytes table xc mq = read_into (full_job bytes) (job_fault bytes) table xc mq
