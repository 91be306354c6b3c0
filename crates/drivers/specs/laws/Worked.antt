-- Document 01's worked job of 145 bytes, two of its refused records, and long inputs: what the definition prints for them, computed. Assumes nothing.
use Rattle.std.specs.Prelude.{ℕ, ◌<◌, ◌≡◌, refl, List, [], ◌∷◌, length, replicate, pos, negsuc, Ok}
use Rattle.std.proofs.Common.{sym}
use Rattle.std.proofs.lemmas.Bool.{lt-leb}
use Rattle.std.specs.Float.Ieee.{add, lt, sub, mul, le, of_bits, to_bits}
use Rattle.numbers.specs.Pick.{pick, some}
use Rattle.numbers.specs.F64.{0ᶠ, 1ᶠ}
use Rattle.numbers.specs.Over.{over}
use Rattle.numbers.specs.Bits.{float_of, le_number, le_bytes, word_at}
use Rattle.numbers.specs.Arr.{tab, dot_from, dot_of, mv_of}
use Rattle.numbers.specs.EllCalc.{made, calc_bias_cut, calc_parallel_impl, calc_parallel_bias_cut, calc_single_or_parallel_bias_cut}
use Rattle.numbers.specs.Refusal.{◌⨾◌}
use Rattle.numbers.specs.laws.Refusal.{failed, at_first, refuses}
use Rattle.oracles.specs.RoundRobin.{advanced, new_range_answer}
use Rattle.oracles.specs.Scan.{scan_from, scan_of, band_gradient}
use Rattle.oracles.specs.Table.{value_of}
use Rattle.oracles.specs.LowpassOracle.{start_oracle, assess_of, assess_feas_answer}
use Rattle.oracles.specs.EllCommon.{update_of}
use Rattle.oracles.specs.Ell.{ell_update_of}
use Rattle.drivers.specs.Record.{size_fault, after, number_at, fields_from, fields_of, field_fault, walk_of, missing_fault, record_fault, lengths_fault, row_count, rows_of}
use Rattle.drivers.specs.CuttingPlaneFeas.{feas_step}
use Rattle.drivers.specs.Text.{bytes_of, joined, digit_char, digits_of, digit_count_to, digit_count, decimal, hex}
use Rattle.drivers.specs.Job.{FullJob, signed, options_of, job_at, full_job_at, full_job, job_fault}
use Rattle.drivers.specs.WriteJob.{write_job_answer}
use Rattle.drivers.specs.Input.{input_tests}
use Rattle.drivers.specs.Run.{run_text}
use Rattle.drivers.specs.Trace.{step_text}
use Rattle.drivers.specs.Program.{first_state, job_text, program_text}
use Rattle.drivers.specs.Rules.{rules, rule_at, index_in, index_of, rule_length}

-- n 2; bands 1, 1; limits 1, 2, 1; row (1, 0); point (0, 0); cursors −1, 0, 0; kappa 0.25; identity; 10 steps, tolerance 0
abbrev pub worked_job : List ℕ
worked_job =
    0x01 ∷ 0x02 ∷ 0 ∷ 0x02 ∷ 0  -- n 2
    ∷ 0x02 ∷ 0x04 ∷ 0 ∷ 0x01 ∷ 0 ∷ 0x01 ∷ 0  -- bands 1, 1
    ∷ 0x03 ∷ 0x18 ∷ 0 ∷ 0 ∷ 0 ∷ 0 ∷ 0 ∷ 0 ∷ 0 ∷ 0xf0 ∷ 0x3f ∷ 0 ∷ 0 ∷ 0 ∷ 0 ∷ 0 ∷ 0 ∷ 0 ∷ 0x40 ∷ 0 ∷ 0 ∷ 0 ∷ 0 ∷ 0 ∷ 0 ∷ 0xf0 ∷ 0x3f  -- limits 1, 2, 1
    ∷ 0x04 ∷ 0x10 ∷ 0 ∷ 0 ∷ 0 ∷ 0 ∷ 0 ∷ 0 ∷ 0 ∷ 0xf0 ∷ 0x3f ∷ 0 ∷ 0 ∷ 0 ∷ 0 ∷ 0 ∷ 0 ∷ 0 ∷ 0  -- row (1, 0)
    ∷ 0x05 ∷ 0x10 ∷ 0 ∷ 0 ∷ 0 ∷ 0 ∷ 0 ∷ 0 ∷ 0 ∷ 0 ∷ 0 ∷ 0 ∷ 0 ∷ 0 ∷ 0 ∷ 0 ∷ 0 ∷ 0 ∷ 0  -- point (0, 0)
    ∷ 0x06 ∷ 0x06 ∷ 0 ∷ 0xff ∷ 0xff ∷ 0 ∷ 0 ∷ 0 ∷ 0  -- cursors −1, 0, 0
    ∷ 0x07 ∷ 0x08 ∷ 0 ∷ 0 ∷ 0 ∷ 0 ∷ 0 ∷ 0 ∷ 0 ∷ 0xd0 ∷ 0x3f  -- kappa 0.25
    ∷ 0x08 ∷ 0x20 ∷ 0 ∷ 0 ∷ 0 ∷ 0 ∷ 0 ∷ 0 ∷ 0 ∷ 0xf0 ∷ 0x3f ∷ 0 ∷ 0 ∷ 0 ∷ 0 ∷ 0 ∷ 0 ∷ 0 ∷ 0 ∷ 0 ∷ 0 ∷ 0 ∷ 0 ∷ 0 ∷ 0 ∷ 0 ∷ 0 ∷ 0 ∷ 0 ∷ 0 ∷ 0 ∷ 0 ∷ 0 ∷ 0xf0 ∷ 0x3f  -- identity
    ∷ 0x09 ∷ 0x0a ∷ 0 ∷ 0x0a ∷ 0 ∷ 0 ∷ 0 ∷ 0 ∷ 0 ∷ 0 ∷ 0 ∷ 0 ∷ 0 ∷ []  -- 10 steps, tolerance 0

-- the same, as a job
abbrev pub worked_full : FullJob
worked_full =
    let one = 1ᶠ in
    let two = float_of 0x4000_0000_0000_0000 in record {
      job = record {
        n = 2;
        rows = 1;
        nwpass = pos 1;
        nwstop = pos 1;
        lp_sq = one;
        up_sq = two;
        sp_sq = one;
        cur1 = negsuc 0;
        cur2 = pos 0;
        cur3 = pos 0;
        kappa = float_of 0x3fd0_0000_0000_0000;
        options = record { max_iters = 10; tolerance = 0ᶠ };
      };
      table = one ∷ 0ᶠ ∷ [];
      point = 0ᶠ ∷ 0ᶠ ∷ [];
      matrix = one ∷ 0ᶠ ∷ 0ᶠ ∷ one ∷ [];
    }

-- it is what the record says, and the record is what the writer makes of it
pub worked_read : full_job worked_job ≡ worked_full
unfolding of_bits pick le_number word_at tab rules rule_at index_in index_of rule_length after number_at fields_from fields_of field_fault walk_of missing_fault record_fault row_count rows_of some signed options_of job_at full_job_at
worked_read = refl

pub worked_written : write_job_answer worked_full (replicate 145 0) ≡ (Ok 145, worked_job)
unfolding to_bits of_bits pick le_bytes tab joined over start_oracle new_range_answer write_job_answer
worked_written = refl

-- all of its output
abbrev pub worked_text : List ℕ
worked_text = bytes_of "0 pass 0 under 3FF0000000000000 4000000000000000 NoSoln\nnone 0\n"

pub worked : program_text worked_job ≡ worked_text
unfolding add lt sub mul le of_bits to_bits pick le_number word_at tab dot_from dot_of mv_of made calc_bias_cut calc_parallel_impl calc_parallel_bias_cut calc_single_or_parallel_bias_cut advanced value_of scan_from scan_of band_gradient assess_of assess_feas_answer some update_of ell_update_of rules rule_at index_in index_of rule_length after number_at fields_from fields_of field_fault walk_of missing_fault record_fault lengths_fault row_count rows_of feas_step joined digit_char digits_of digit_count_to digit_count decimal hex new_range_answer start_oracle signed options_of job_at full_job_at size_fault job_fault step_text run_text first_state job_text program_text
worked = refl

-- the empty record: refused 10 0
pub empty_refused : program_text [] ≡ bytes_of "refused 10 0\n"
unfolding pick rules rule_at fields_from fields_of walk_of missing_fault record_fault some joined digit_char digits_of digit_count_to digit_count decimal job_fault program_text
empty_refused = refl

-- 01 02: refused 7 0
pub short_refused : program_text (0x01 ∷ 0x02 ∷ []) ≡ bytes_of "refused 7 0\n"
unfolding pick le_number word_at rules rule_at index_in index_of after fields_from fields_of field_fault walk_of record_fault joined digit_char digits_of digit_count_to digit_count decimal job_fault program_text
short_refused = refl

-- any input of more than 65,536 bytes: refused 11 65536
pub long_refused : (bytes : List ℕ) → 65536 < length bytes → program_text bytes ≡ bytes_of "refused 11 65536\n"
unfolding pick joined digit_char digits_of digit_count_to digit_count decimal program_text
long_refused bytes h = sym (refuses _ _ (input_tests bytes ⨾ _) (at_first _ (failed (lt-leb (length bytes) 65536 h))) refl)
