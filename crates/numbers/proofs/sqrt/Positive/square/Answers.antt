-- `numbers::sqrt::Positive::square` meets its contract. Assumes nothing.
use Rattle.numbers.proofs.sqrt.Patterns.{square_subnormal, square_normal}
use Rattle.numbers.proofs.sqrt.Positive.square.Goals as goal

pub returns-then-field-eq0 : goal.returns-then-field-eq0
returns-then-field-eq0 c =
    let n = c.normalise-s.ensures in
    square_subnormal c.args.self.bits _ _ _ _ c.args.self.above c.if-field-eq0.true n.0 n.3 c.halved.ensures

pub returns : goal.returns
returns c = square_normal _ _ _ c.args.self.below c.if-field-eq0.false c.halved-2.ensures
