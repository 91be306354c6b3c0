-- The ellipsoid with a full matrix (ell.rs). Definitions only.
use Rattle.numbers.specs.Refusal.{Tests}
use Rattle.numbers.specs.declared.refusal.Refusal.{Refusal}
use Rattle.std.specs.Prelude.{ℕ, ◌*◌, Bool, ◌&&◌, List, leb, eqb, length, Float, Ok, Err, Result}
use Rattle.numbers.specs.F64.{◌⊖◌, ◌⊗◌, ◌⊘◌, 0ᶠ}
use Rattle.numbers.specs.Pick.{pick}
use Rattle.numbers.specs.Arr.{dot_of, mv_of, sized}
use Rattle.numbers.specs.EllCalc.{made}
use Rattle.numbers.specs.declared.cut.CutChoice.{CutChoice}
use Rattle.oracles.specs.Matrix.{nth, at, grid}
use Rattle.oracles.specs.EllCommon.{calc_of, centre_of, new_of, Work, Change, change, update_of, update_answer}
use Rattle.oracles.specs.declared.ell_common.CutStrategy.{CutStrategy}
use Rattle.oracles.specs.declared.ell.Ell.{Ell}
use Rattle.oracles.specs.declared.ell.EllUpdate.{EllUpdate}
use Rattle.oracles.specs.declared.ell.EllChange.{EllChange}

-- the state of a new ellipsoid beside its matrix and its centre
abbrev pub fresh_ell : ℕ → Float → Ell
fresh_ell n kappa = record { ndim = n; kappa = kappa; helper = made n; tsq = 0ᶠ }

-- `new_with_matrix`; refusal 1
unfoldable pub new_ell_answer : ℕ → Float → Result Ell Refusal
new_ell_answer n kappa = new_of Err (Ok (fresh_ell n kappa)) n

-- the slices that an update is lent to write
pub record EllBuffers : Type 0 where
  pub mq : List Float
  pub xc : List Float
  pub grad_t : List Float

abbrev pub ell_buffers : List Float → List Float → List Float → EllBuffers
ell_buffers mq xc grad_t = record { mq = mq; xc = xc; grad_t = grad_t }

-- the matrix less ratio × gt gtᵀ, worked out in the lower triangle and mirrored
unfoldable pub rank_one : ℕ → Float → List Float → List Float → List Float
rank_one n ratio gt mq = grid (λ r c. pick (leb c r) (low r c) (low c r)) n n
  where
    low : ℕ → ℕ → Float
    low i j = at n mq i j ⊖ ratio ⊗ nth gt i ⊗ nth gt j

-- with another kappa and tsq
abbrev pub with_tsq : Ell → Float → Float → Ell
with_tsq e kappa tsq = record { ndim = e.ndim; kappa = kappa; helper = e.helper; tsq = tsq }

-- the ellipsoid after an update, and the slices
abbrev pub ell_after : Ell → Change EllBuffers → EllUpdate × EllBuffers
ell_after e c = (record { ell = with_tsq e c.kappa c.tsq; answer = c.answer }, c.buffers)

-- what an update works out; grad_t is written before it is known to fail
abbrev pub ell_work : Ell → CutStrategy → List Float → CutChoice → EllBuffers → Work EllBuffers
ell_work e strategy grad beta b =
    let n = e.ndim in
    let gt = mv_of n b.mq grad in
    let omega = dot_of grad gt in
    record {
      kappa = e.kappa;
      tsq = e.tsq;
      calculator = calc_of strategy e.helper beta;
      omega = omega;
      before = b;
      prepared = ell_buffers b.mq b.xc gt;
      success = λ kappa p. (kappa, ell_buffers (rank_one n (p.sigma ⊘ omega) gt b.mq) (centre_of b.xc (p.rho ⊘ omega) gt) gt);
    }

-- the update itself
unfoldable pub ell_update_of : Ell → CutStrategy → List Float → CutChoice → EllBuffers → EllUpdate × EllBuffers
ell_update_of e strategy grad beta b = ell_after e (update_of (ell_work e strategy grad beta b))

-- the lengths that n says
abbrev pub ell_fits : ℕ → List Float → EllBuffers → Bool
ell_fits n grad b = eqb (length grad) n && eqb (length b.mq) (n * n) && eqb (length b.xc) n && eqb (length b.grad_t) n

-- `update_core`: refusals 1 and 2
abbrev pub ell_tests : ℕ → List Float → EllBuffers → Tests
ell_tests n grad b = sized n (ell_fits n grad b)

abbrev pub ell_update_answer : Ell → CutStrategy → List Float → CutChoice → EllBuffers → EllUpdate × EllBuffers
ell_update_answer e strategy grad beta b =
    update_answer (ell_after e) (ell_tests e.ndim grad b) e.kappa e.tsq b (ell_update_of e strategy grad beta b)

-- ---- what an update changes, in the small form in which the code hands it on

abbrev pub change_of : EllChange → EllBuffers → Change EllBuffers
change_of c b = change (c.answer) c.kappa c.tsq b

-- the ellipsoid after it, and the answer
abbrev pub ell_changed : Ell → EllChange → EllUpdate
ell_changed e c = record { ell = with_tsq e c.kappa c.tsq; answer = c.answer }
