-- `oracles::band_cut::negate_into` meets its contract. Assumes nothing.
use mathlib.Core.Path.{◌≡◌, refl, sym, ◌∙◌}
use mathlib.Core.List.{List, map}
use Prim.Native.Nat.{ℕ}
use lib.ListN.{length, get_or, length-map, get_or-map}
use lib.Ieee.{Float, nan, neg}
use Rattle.numbers.specs.Arr.{tab}
use Rattle.numbers.specs.laws.Arr.{filled_start, filled_turn, filled_done, tab_ext}
use borrow.Author.Rules.{rules}
use Rattle.oracles.proofs.band_cut.negate_into.Goals as goal

-- the table of a row's negated entries is the row negated
negated : (row : List Float) (n : ℕ) → n ≡ length row → tab (λ k. neg (get_or row k nan)) n ≡ map neg row
unfolding neg
negated row n e = sym (tab_ext (λ k. neg (get_or row k nan)) n (map neg row) (length-map row neg ∙ sym e) (λ i h. get_or-map neg row i nan))

pub loop-i-init : goal.loop-i-init
loop-i-init c = filled_start _ _

pub loop-i-preserved : goal.loop-i-preserved
loop-i-preserved c =
    let l = c.loop-i in
    filled_turn _ _ l.grad l.i _ l.invariant (search rules) refl

pub returns : goal.returns
returns c =
    let a = c.args in
    let l = c.loop-i in
    filled_done _ _ l.grad l.i l.invariant (search rules) ∙ negated a.row.now (length a.grad.now) (search rules)
