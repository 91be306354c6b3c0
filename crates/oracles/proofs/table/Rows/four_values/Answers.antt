-- `oracles::table::Rows::four_values` meets its contract. Assumes nothing.
use mathlib.Core.Path.{◌≡◌, refl, ◌∙◌}
use mathlib.Core.List.{List}
use Prim.Native.Nat.{ℕ, ◌+◌, ◌-◌, ◌*◌}
use native.Mathlib.Omega.{arith}
use lib.Ieee.{Float}
use lib.ListN.{take, drop}
use Rattle.numbers.specs.Arr.{dot_of, four_of}
use Rattle.numbers.specs.laws.Arr.{row_part}
use Rattle.numbers.specs.declared.arr.Four.{Four}
use Rattle.oracles.specs.Table.{value_of, four_values}
use Rattle.oracles.proofs.table.Rows.four_values.Goals as goal

-- four rows, each from its part of the table
values : (n : ℕ) (table x : List Float) (i : ℕ) {r : Four}
    → r ≡ four_of (take (i * n + n - i * n) (drop (i * n) table)) (take (i * n + n + n - (i * n + n)) (drop (i * n + n) table))
    (take (i * n + n + n + n - (i * n + n + n)) (drop (i * n + n + n) table)) (take (i * n + n + n + n + n - (i * n + n + n + n)) (drop (i * n + n + n + n) table)) x
    → r ≡ four_values n table x i
unfolding value_of
values n table x i e =
    let p = row_part n i (i * n) (i * n + n) table refl refl in
    let q = row_part n (i + 1) (i * n + n) (i * n + n + n) table (omega arith) refl in
    let u = row_part n (i + 2) (i * n + n + n) (i * n + n + n + n) table (omega arith) refl in
    let w = row_part n (i + 3) (i * n + n + n + n) (i * n + n + n + n + n) table (omega arith) refl in
    e ∙ (λ j. record { a = dot_of (p j) x; b = dot_of (q j) x; c = dot_of (u j) x; d = dot_of (w j) x })

pub returns : goal.returns
returns c = let a = c.args in values a.self.n a.self.table.now a.self.x.now a.i c.dot_four.ensures
