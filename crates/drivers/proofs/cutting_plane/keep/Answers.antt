-- `drivers::cutting_plane::keep` meets its contract. Assumes nothing.
use Rattle.std.specs.Prelude.{◌≡◌, ◌≤◌, List, ◌++◌, Float, ℕ, true, length, drop}
use Rattle.std.proofs.Common.{refl, sym, ap, ◌∙◌, arith, rules}
use lib.Ieee.{nan}
use lib.ListN.{get_or}
use lib.Seq.{take_all}
use borrow.Author.Tests.{le-leb, lt-leb}
use Rattle.numbers.specs.laws.Arr.{FilledTo, filled_start, filled_turn, tab_get_or}
use Rattle.numbers.specs.laws.Pick.{hit, skip}
use Rattle.numbers.specs.laws.Over.{over_front}
use Rattle.drivers.specs.CuttingPlane.{kept}
use Rattle.drivers.proofs.cutting_plane.keep.Goals as goal

-- when all have been written
done : (xc best₀ best : List Float) (i : ℕ) → length xc ≤ length best₀ → FilledTo (λ k. get_or xc k nan) best₀ best i → i ≡ length xc → best ≡ kept true xc best₀
done xc best₀ best i l f e =
    hit _ _ _ _ (le-leb (length xc) (length best₀) l)
    (f.is ∙ rw e (ap (λ (l : List Float). l ++ drop (length xc) best₀) (tab_get_or xc nan (length xc) (omega arith) ∙ take_all (length xc) xc (omega arith))) ∙ sym (over_front best₀ xc))

pub loop-i-init : goal.loop-i-init
loop-i-init c = filled_start _ _

pub loop-i-preserved : goal.loop-i-preserved
loop-i-preserved c =
    let l = c.loop-i in
    filled_turn _ _ l.x_best l.i _ l.invariant (search rules) refl

pub returns-after-loop-i : goal.returns-after-loop-i
returns-after-loop-i c =
    let l = c.loop-i in
    done c.args.xc.now c.args.x_best.now l.x_best l.i c.if-xc-x_best.true l.invariant (search rules)

pub returns-else-xc-x_best : goal.returns-else-xc-x_best
returns-else-xc-x_best c = skip _ _ _ _ (lt-leb (length c.args.xc.now) (length c.args.x_best.now) c.if-xc-x_best.false) refl
