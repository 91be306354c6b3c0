-- What was read of an input. Definitions only.
use Rattle.std.specs.Prelude.{ℕ, ◌≤◌, List, length, take, Option, Some, None}

-- a count of bytes lies within the slice that they were read into; none where a read failed
abbrev pub Within : Option ℕ → ℕ → Type 0
Within (Some count) room = count ≤ room
Within None room = Unit {0}

-- what was read into a slice that has room for one byte more than a record may have, so that a long one is known
pub record ReadInto (read : Option ℕ) (bytes : List ℕ) : Type 0 where
  pub within : Within read (length bytes)
  pub room : 65537 ≤ length bytes

-- what is made of the bytes that were read into the front of a slice; or what is made where none could be read
abbrev pub of_read : {X : Type 0} → Option ℕ → List ℕ → (List ℕ → X) → X → X
of_read (Some count) bytes made unread = made (take count bytes)
of_read None bytes made unread = unread
