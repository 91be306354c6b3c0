-- What the exported calls answer: the definitions of the three layers, told in numbers. Each call gives 0 or the refusal's number, and the rest through
-- slices and numbers that it is lent. A refused call leaves those as they were, but for the place of a record's fault and for an optimizing run that 6 halts midway. Definitions only.
use Rattle.oracles.specs.declared.ldlt_mgr.Pos.{Pos}
use Rattle.oracles.specs.declared.ell_stable.EllStable.{EllStable}
use Rattle.oracles.specs.declared.ell.Ell.{Ell}
use Rattle.numbers.specs.declared.cut.CutStatus.{CutStatus}
use Rattle.numbers.specs.declared.refusal.Refusal.{Refusal}
use Rattle.std.specs.Prelude.{Some, ℕ, Bool, List, eqb, Float, Err, Ok, Result, ⊤, None, Option}
use Rattle.std.specs.Result.{result_unwrap_or}
use Rattle.numbers.specs.Pick.{pick}
use Rattle.numbers.specs.Refusal.{refusal_number, number_of}
use Rattle.numbers.specs.Cut.{status_number}
use Rattle.numbers.specs.declared.cut.CutChoice.{CutChoice}
use Rattle.numbers.specs.declared.cut.CutChoice.TheVariants.{Single, Parallel}
use Rattle.oracles.specs.Ell.{EllBuffers, with_tsq, ell_update_answer}
use Rattle.oracles.specs.EllStable.{StableBuffers, stable_update_answer, with_tsq as with_stable_tsq}
use Rattle.oracles.specs.declared.ell_common.CutStrategy.{CutStrategy}
use Rattle.oracles.specs.declared.ell_common.CutStrategy.TheVariants.{BiasCut, CentralCut, Q}

-- ---- the first layer, and the factorization

-- the number that is found, or what was there
abbrev pub number_exported : Result Float Refusal → Float → ℕ × Float
number_exported a old = (number_of a, result_unwrap_or a old)

abbrev pub written_exported : Result ⊤ Refusal × List Float → ℕ × List Float
written_exported a = (number_of a.0, a.1)

-- the rows of the leading block that is not positive definite; 0 where there is none
abbrev pub factored_end : Result (Option Pos) Refusal → ℕ → ℕ
factored_end (Ok None) old = 0
factored_end (Ok (Some p)) old = p.end
factored_end (Err why) old = old

abbrev pub factored_exported : Result (Option Pos) Refusal × List Float → ℕ → ℕ × ℕ × List Float
factored_exported a old = (number_of a.0, factored_end a.0 old, a.1)

-- ---- updates

-- 0 a bias cut, 1 a central one, any other number the q form
abbrev pub strategy_of : ℕ → CutStrategy
strategy_of k = pick (eqb k 0) BiasCut (pick (eqb k 1) CentralCut Q)

-- one bound or two
abbrev pub beta_of : Bool → Float → Float → CutChoice
beta_of parallel beta0 beta1 = pick parallel (Parallel beta0 beta1) (Single beta0)

abbrev pub status_or : Result CutStatus Refusal → ℕ → ℕ
status_or (Ok status) old = status_number status
status_or (Err why) old = old

-- what an update leaves: its number, its status, kappa and tsq, and the slices
pub record UpdateEnd (Buffers : Type 0) : Type 0 where
  pub code : ℕ
  pub status : ℕ
  pub kappa : Float
  pub tsq : Float
  pub buffers : Buffers

abbrev pub update_end : {Buffers : Type 0} → ℕ → ℕ → Float → Float → Buffers → UpdateEnd Buffers
update_end code status kappa tsq buffers = record { code = code; status = status; kappa = kappa; tsq = tsq; buffers = buffers }

-- its number, and status, kappa and tsq after it
abbrev pub update_numbers : Result CutStatus Refusal → Float → Float → ℕ → ℕ × ℕ × Float × Float
update_numbers answer kappa tsq status = (number_of answer, status_or answer status, kappa, tsq)

-- the ellipsoid of n and kappa is made first, and has this tsq; refusal 1 where it cannot be
unfoldable pub ell_exported : Result Ell Refusal → CutStrategy → List Float → CutChoice → Float → Float → ℕ → EllBuffers → UpdateEnd EllBuffers
ell_exported (Ok e) strategy grad beta kappa tsq status b =
    let u = ell_update_answer (with_tsq e e.kappa tsq) strategy grad beta b in
    update_end (number_of u.0.answer) (status_or u.0.answer status) u.0.ell.kappa u.0.ell.tsq u.1
ell_exported (Err why) strategy grad beta kappa tsq status b = update_end (refusal_number why) status kappa tsq b

-- the same of `EllStable`
unfoldable pub stable_exported : Result EllStable Refusal → CutStrategy → List Float → CutChoice → Float → Float → ℕ → StableBuffers → UpdateEnd StableBuffers
stable_exported (Ok e) strategy grad beta kappa tsq status b =
    let u = stable_update_answer (with_stable_tsq e e.kappa tsq) strategy grad beta b in
    update_end (number_of u.0.answer) (status_or u.0.answer status) u.0.ell.kappa u.0.ell.tsq u.1
stable_exported (Err why) strategy grad beta kappa tsq status b = update_end (refusal_number why) status kappa tsq b
