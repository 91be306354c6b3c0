-- What an exported update leaves, part by part. Assumes nothing.
use Rattle.numbers.specs.declared.cut.CutStatus.{CutStatus}
use Rattle.std.specs.Prelude.{Err, Ok, Result}
use mathlib.Core.Path.{◌≡◌, refl}
use mathlib.Core.List.{List}
use Prim.Native.Nat.{ℕ}
use lib.Ieee.{Float}
use Rattle.numbers.specs.Refusal.{refusal_number, number_of}
use Rattle.numbers.specs.declared.refusal.Refusal.{Refusal}
use Rattle.numbers.specs.declared.cut.CutChoice.{CutChoice}
use Rattle.oracles.specs.Ell.{EllBuffers, with_tsq, ell_update_answer}
use Rattle.oracles.specs.EllStable.{StableBuffers, stable_update_answer, with_tsq as with_stable_tsq}
use Rattle.oracles.specs.declared.ell.Ell.{Ell}
use Rattle.oracles.specs.declared.ell.EllUpdate.{EllUpdate}
use Rattle.oracles.specs.declared.ell_stable.EllStable.{EllStable}
use Rattle.oracles.specs.declared.ell_stable.EllStableUpdate.{EllStableUpdate}
use Rattle.oracles.specs.declared.ell_common.CutStrategy.{CutStrategy}
use Rattle.ponduvizh.specs.Exported.{status_or, update_end, update_numbers, ell_exported, stable_exported}

pub numbers_are : (answer : (Result CutStatus Refusal)) (kappa tsq : Float) (status r v : ℕ) → v ≡ status_or answer status → r ≡ number_of answer → (r, v, kappa, tsq) ≡ update_numbers answer kappa tsq status
numbers_are answer kappa tsq status r v e d = λ i. (d i, e i, kappa, tsq)

-- of `Ell`, from what is asked for and what the definition calls it
module _ (x y : (Result Ell Refusal)) (s : CutStrategy) (grad : List Float) (beta : CutChoice) (kappa tsq : Float) (status : ℕ) (b : EllBuffers) (ex : x ≡ y) where
  pub ell_made : (s' : CutStrategy) (beta' : CutChoice) (e : Ell) (u : EllUpdate) (b' : EllBuffers) (r v : ℕ) (k t : Float) → x ≡ Ok e → s' ≡ s → beta' ≡ beta
      → (u, b') ≡ ell_update_answer (with_tsq e e.kappa tsq) s' grad beta' b
      → (r, v, k, t) ≡ update_numbers u.answer u.ell.kappa u.ell.tsq status
      → update_end r v k t b' ≡ ell_exported y s grad beta kappa tsq status b
  unfolding ell_exported
  ell_made s' beta' e u b' r v k t m es eb d h = rw (← ex, m, ← es, ← eb, ← d) (λ i. update_end (h i).0 (h i).1 (h i).2 (h i).3 b')

  pub ell_refused : (why : Refusal) (r : ℕ) → x ≡ Err why → r ≡ refusal_number why → update_end r status kappa tsq b ≡ ell_exported y s grad beta kappa tsq status b
  unfolding ell_exported
  ell_refused why r m h = rw (← ex, m, h) refl

-- of `EllStable`, from what is asked for and what the definition calls it
module _ (x y : (Result EllStable Refusal)) (s : CutStrategy) (grad : List Float) (beta : CutChoice) (kappa tsq : Float) (status : ℕ) (b : StableBuffers) (ex : x ≡ y) where
  pub stable_made : (s' : CutStrategy) (beta' : CutChoice) (e : EllStable) (u : EllStableUpdate) (b' : StableBuffers) (r v : ℕ) (k t : Float) → x ≡ Ok e → s' ≡ s → beta' ≡ beta
      → (u, b') ≡ stable_update_answer (with_stable_tsq e e.kappa tsq) s' grad beta' b
      → (r, v, k, t) ≡ update_numbers u.answer u.ell.kappa u.ell.tsq status
      → update_end r v k t b' ≡ stable_exported y s grad beta kappa tsq status b
  unfolding stable_exported
  stable_made s' beta' e u b' r v k t m es eb d h = rw (← ex, m, ← es, ← eb, ← d) (λ i. update_end (h i).0 (h i).1 (h i).2 (h i).3 b')

  pub stable_refused : (why : Refusal) (r : ℕ) → x ≡ Err why → r ≡ refusal_number why → update_end r status kappa tsq b ≡ stable_exported y s grad beta kappa tsq status b
  unfolding stable_exported
  stable_refused why r m h = rw (← ex, m, h) refl
