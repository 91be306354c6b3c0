-- Laws of Input. Assumes nothing.
use Rattle.std.specs.Prelude.{ℕ, ◌≤◌, ◌≡◌, List, length, take, replicate, Option, Some, None}
use Rattle.std.proofs.Common.{sym, subst, arith}
use Rattle.std.proofs.lemmas.List.{length-replicate}
use Rattle.streams.specs.Input.{Within, ReadInto, of_read}

-- a count of bytes that were read
pub within_count : (read : Option ℕ) (count room : ℕ) → read ≡ Some count → Within read room → count ≤ room
within_count read count room e h = subst (λ (r : Option ℕ). Within r room) e h

-- an array of zeros that an input is read into
abbrev pub input_room : List ℕ
input_room = replicate 65537 0

-- a read keeps its length
pub read_into : (read : Option ℕ) (bytes : List ℕ) → length bytes ≡ length input_room → Within read (length input_room) → ReadInto read bytes
read_into read bytes l h = record { within = rw l h; room = omega (arith, l, length-replicate {A = ℕ} 65537 0) }

pub read_none : ReadInto None input_room
read_none = record { within = tt; room = omega (arith, length-replicate {A = ℕ} 65537 0) }

-- what is made, once a branch knows what was read
module _ {X : Type 0} (P : X → Type 0) (read : Option ℕ) (bytes : List ℕ) (made : List ℕ → X) (unread : X) where
  pub of_some : (count : ℕ) → read ≡ Some count → P (made (take count bytes)) → P (of_read read bytes made unread)
  of_some count e p = subst (λ (r : Option ℕ). P (of_read r bytes made unread)) (sym e) p

  pub of_none : read ≡ None → P unread → P (of_read read bytes made unread)
  of_none e p = subst (λ (r : Option ℕ). P (of_read r bytes made unread)) (sym e) p
