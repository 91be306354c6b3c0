-- `oracles::ell::shrink` meets its contract. Assumes nothing.
use mathlib.Core.Path.{◌∙◌}
use Rattle.oracles.proofs.ell.Laws.{shrunk}
use Rattle.oracles.proofs.ell.shrink.Goals as goal

pub returns : goal.returns
returns c =
    let a = c.args in
    c.mirror.ensures ∙ rw c.lower_rows.ensures (shrunk a.n a.ratio a.gt.now a.mq.now)
