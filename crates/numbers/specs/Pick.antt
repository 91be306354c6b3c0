-- The first answer where a test holds, else the second. It is not unfolded by itself, so that a chain of tests is proved a test at a time, by two laws.
use Rattle.std.specs.Prelude.{Bool, true, false, ◌||◌, ℕ, zero, suc, ◌+◌}

unfoldable pub pick {ℓ} : {X : Type ℓ} → Bool → X → X → X
pick true a b = a
pick false a b = b

-- whether f holds for one of the numbers lo, lo + 1, .. lo + count − 1
unfoldable pub some : (ℕ → Bool) → ℕ → ℕ → Bool
some f lo zero = false
some f lo (suc count) = some f lo count || f (lo + count)
