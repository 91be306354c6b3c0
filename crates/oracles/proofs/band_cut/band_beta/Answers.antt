-- `oracles::band_cut::band_beta` meets its contract. Assumes nothing.
use mathlib.Core.Path.{refl, sym, ap, ◌∙◌}
use Rattle.numbers.specs.laws.Pick.{hit, skip}
use Rattle.oracles.specs.Scan.{band_beta}
use Rattle.oracles.proofs.band_cut.band_beta.Goals as goal

pub returns-then-is_over : goal.returns-then-is_over
returns-then-is_over c =
    let a = c.args in
    hit a.is_over _ _ _ c.if-is_over.true refl ∙ sym (ap (band_beta a.value a.is_over a.lower) c.in-Some.is)

pub returns : goal.returns
returns c =
    let a = c.args in
    skip a.is_over _ _ _ c.if-is_over.false refl ∙ sym (ap (band_beta a.value a.is_over a.lower) c.in-Some.is)
