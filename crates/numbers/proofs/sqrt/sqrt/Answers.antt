-- `numbers::sqrt::sqrt` meets its contract. Assumes nothing.
use mathlib.Core.Path.{◌≡◌, sym, subst}
use lib.Dec.{T}
use lib.Ieee.{Float, binary64, fits}
use lib.Ieee.Positive.{positive}
use Rattle.numbers.specs.Sqrt.{sqrt_of, NearestRoot}
use Rattle.numbers.specs.laws.Nearest.{sqrt_nearest}
use Rattle.numbers.proofs.sqrt.Patterns.{nan_root, not_a_nan, negative_root, positive_root, other_root}
use borrow.Author.Rules.{rules}
use Rattle.numbers.proofs.sqrt.sqrt.Goals as goal

-- what is equal to `sqrt_of` is the nearest root
nearest : (x r : Float) → T (fits binary64 x) → r ≡ sqrt_of x → T (positive x) → NearestRoot x r
nearest x r f e p = subst (NearestRoot x) (sym e) (sqrt_nearest x f p)

pub returns-then-x : goal.returns-then-x
returns-then-x c =
    let e = nan_root _ c.if-x.true in
    record { value = e; nearest_root = nearest _ _ (search rules) e }

pub returns-then-bits : goal.returns-then-bits
returns-then-bits c =
    let f : T (fits binary64 c.args.x) = search rules in
    let e = positive_root _ f _ c.guessed_root.ensures in
    record { value = e; nearest_root = nearest _ _ f e }

pub returns-then-bits-2 : goal.returns-then-bits-2
returns-then-bits-2 c =
    let f : T (fits binary64 c.args.x) = search rules in
    let e = positive_root _ f _ c.root.ensures in
    record { value = e; nearest_root = nearest _ _ f e }

pub returns-then-bits-gt-SIGN : goal.returns-then-bits-gt-SIGN
returns-then-bits-gt-SIGN c =
    let f : T (fits binary64 c.args.x) = search rules in
    let e = negative_root _ f c.if-bits-gt-SIGN.true in
    record { value = e; nearest_root = nearest _ _ f e }

pub returns : goal.returns
returns c =
    let f : T (fits binary64 c.args.x) = search rules in
    let e = other_root _ f c.if-x.false c.if-bits-2.false c.if-bits-gt-SIGN.false in
    record { value = e; nearest_root = nearest _ _ f e }

pub float_to_bits-bits : goal.float_to_bits-bits
float_to_bits-bits c = not_a_nan _ c.if-x.false
