-- Written from here, the rest stays. Definitions only.
use Rattle.std.specs.Prelude.{ℕ, ◌+◌, List, ◌++◌, length, take, drop}

-- xs with `new` written from `at` on; what stands before and after stays
unfoldable pub over {ℓ} : {X : Type ℓ} → List X → ℕ → List X → List X
over xs at new = take at xs ++ new ++ drop (at + length new) xs
