-- What both drivers (cutting_plane.rs) share: the state of a run, its tests, the best point, and whether it goes on. Definitions only.
use Rattle.std.specs.Prelude.{ℕ, ◌*◌, Bool, not, ◌&&◌, List, leb, eqb, length, Float}
use Rattle.std.specs.Float.Ieee.{lt, of_bits}
use Rattle.std.specs.Float.{binary64}
use Rattle.numbers.specs.Pick.{pick}
use Rattle.numbers.specs.Refusal.{◌⨾◌, ask, Tests}
use Rattle.numbers.specs.declared.refusal.Refusal.TheVariants.{Room}
use Rattle.numbers.specs.declared.cut.CutStatus.{CutStatus}
use Rattle.oracles.specs.LowpassOracle.{oracle_tests}
use Rattle.oracles.specs.EllCommon.{is_success}
use Rattle.oracles.specs.Ell.{EllBuffers}
use Rattle.oracles.specs.declared.ell.Ell.{Ell}
use Rattle.oracles.specs.declared.lowpass_oracle.LowpassOracle.{LowpassOracle}
use Rattle.drivers.specs.Record.{fronted}
use Rattle.drivers.specs.declared.cutting_plane.Options.{Options}
use Rattle.oracles.specs.Ell.{ell_buffers}

-- 2,000 steps and 1e-20
abbrev pub default_options : Options
default_options = record { max_iters = 2000; tolerance = of_bits binary64 0x3bc7_9ca1_0c92_4223 }

-- all that a run moves: the oracle, the ellipsoid with its matrix and centre, and the scratch
pub record State : Type 0 where
  pub oracle : LowpassOracle
  pub ell : Ell
  pub buffers : EllBuffers
  pub grad : List Float

abbrev pub state_of : LowpassOracle → Ell → List Float → List Float → List Float → List Float → State
state_of o e mq xc grad grad_t = record { oracle = o; ell = e; buffers = ell_buffers mq xc grad_t; grad = grad }

-- the lengths that n and the row count say: of the table, the matrix, the centre and the scratch
abbrev pub run_fits : ℕ → ℕ → ℕ → ℕ → ℕ → ℕ → ℕ → Bool
run_fits n rows table mq xc grad grad_t = eqb table (rows * n) && eqb xc n && eqb mq (n * n) && eqb grad n && eqb grad_t n

-- refusals 1 to 4, from the slices' lengths
unfoldable pub check_of : LowpassOracle → ℕ → ℕ → ℕ → ℕ → ℕ → ℕ → ℕ → Tests
check_of o n rows table mq xc grad grad_t = oracle_tests o n rows (run_fits n rows table mq xc grad grad_t)

-- of a state over a table of so many rows
abbrev pub check_state : ℕ → List Float → State → Tests
check_state rows table s =
    check_of s.oracle s.ell.ndim rows (length table) (length s.buffers.mq) (length s.buffers.xc) (length s.grad) (length s.buffers.grad_t)

-- then 11, where an output has not the room that is needed
abbrev pub room_test : ℕ → ℕ → Tests
room_test needed room = ask (leb needed room) Room

-- both drivers: x_best must hold a point
abbrev pub run_tests : ℕ → List Float → State → List Float → Tests
run_tests rows table s best = check_state rows table s ⨾ room_test s.ell.ndim (length best)

-- the point at the front of x_best, where it is to be kept and there is room; the rest stays
abbrev pub kept : Bool → List Float → List Float → List Float
kept is_kept xc best = pick (is_kept && leb (length xc) (length best)) (fronted xc best) best

-- a run goes on after a successful update, unless tsq < tolerance
abbrev pub proceeds : CutStatus → Float → Float → Bool
proceeds status tsq tolerance = is_success status && not (lt tsq tolerance)
