-- `ponduvizh::scans::upper_of` meets its contract. Assumes nothing.
use Rattle.std.specs.Prelude.{◌≡◌, Bool, true, false, Float}
use Rattle.std.proofs.Common.{refl, ◌∙◌}
use Rattle.std.specs.Bool.{then_some}
use Rattle.numbers.specs.Pick.{pick}
use Rattle.ponduvizh.specs.ExportedScan.{upper_of}
use Rattle.ponduvizh.proofs.scans.upper_of.Goals as goal

some_or_none : (b : Bool) (u : Float) → then_some b u ≡ upper_of b u
unfolding pick
some_or_none true u = refl
some_or_none false u = refl

pub returns : goal.returns
returns c = c.then_some.ensures ∙ some_or_none c.args.bounded c.args.upper
