-- The record at the front of a slice that it was written to, of answers and of jobs. Assumes nothing.
use Rattle.std.specs.Prelude.{ℕ, ◌≡◌, List, length, take, Ok, Err, Result}
use Rattle.std.proofs.Common.{sym, ap, ◌∙◌, arith}
use Rattle.numbers.specs.Over.{over}
use Rattle.numbers.specs.Refusal.{Sound}
use Rattle.numbers.specs.declared.refusal.Refusal.{Refusal}
use Rattle.drivers.specs.laws.Written.{wrote}

module _ (bytes out : List ℕ) (w : (Result ℕ Refusal)) (out' : List ℕ) (e : ◌≡◌ {A = Result ℕ Refusal × List ℕ} (w, out') (Ok (length bytes), over out 0 bytes)) where
  pub record_front : (count : ℕ) → w ≡ Ok count → take count out' ≡ bytes
  record_front count k = (wrote Sound bytes out out' count (sym e ∙ ap (λ r. (r, out')) k)).front_is

  -- and it is never refused
  pub record_made : (why : Refusal) → w ≡ Err why → ⊥
  record_made why k =
      let w_is : w ≡ Ok (length bytes) = ap (λ z. z.0) e in
      let z : ◌≡◌ {A = ℕ} 0 1 = cc in
      omega arith
