-- `oracles::table::Rows::row_value` meets its contract. Assumes nothing.
use mathlib.Core.Path.{◌≡◌, refl, ap, ◌∙◌}
use mathlib.Core.List.{List}
use Prim.Native.Nat.{ℕ, ◌+◌, ◌-◌, ◌*◌}
use lib.Ieee.{Float}
use lib.ListN.{take, drop}
use Rattle.numbers.specs.Arr.{dot_of}
use Rattle.numbers.specs.laws.Arr.{row_part}
use Rattle.oracles.specs.Table.{value_of}
use Rattle.oracles.proofs.table.Rows.row_value.Goals as goal

-- the part from i × n to i × n + n is row i
row_is : (n : ℕ) (table x : List Float) (i : ℕ) → dot_of (take (i * n + n - i * n) (drop (i * n) table)) x ≡ value_of n table x i
unfolding value_of
row_is n table x i = ap (λ (l : List Float). dot_of l x) (row_part n i (i * n) (i * n + n) table refl refl)

pub returns : goal.returns
returns c = let a = c.args in c.dot_zip.ensures ∙ row_is a.self.n a.self.table.now a.self.x.now a.i
