-- `oracles::ldlt_mgr::Lmi::get_elem` meets its contract. Assumes nothing.
use mathlib.Core.Path.{refl}
use borrow.Author.Rules.{rules}
use Rattle.numbers.specs.F64.{◌⊖◌}
use Rattle.oracles.specs.Matrix.{total}
use Rattle.oracles.specs.LdltMgr.{get_elem}
use Rattle.oracles.specs.laws.Matrix.{total_turn, total_at}
use Rattle.oracles.proofs.ldlt_mgr.Lmi.get_elem.Goals as goal

pub loop-k-init : goal.loop-k-init
unfolding total
loop-k-init c = c.at-s.ensures

pub loop-k-preserved : goal.loop-k-preserved
loop-k-preserved c =
    let l = c.loop-k in
    total_turn ◌⊖◌ _ _ l.k l.s _ l.invariant refl

pub returns : goal.returns
unfolding get_elem
returns c = let l = c.loop-k in total_at ◌⊖◌ _ _ l.k _ l.s l.invariant (search rules)
