-- `oracles::lowpass_oracle::LowpassOracle::assess_middle` meets its contract. Assumes nothing.
use Rattle.std.specs.Prelude.{None}
use Rattle.numbers.specs.F64.{0ᶠ}
use Rattle.oracles.proofs.lowpass_oracle.Steps.{cut_fits, middle_passes, middle_breaks}
use Rattle.oracles.proofs.lowpass_oracle.LowpassOracle.assess_middle.Goals as goal
use borrow.Author.Rules.{rules}

pub gradient_into-requires : goal.gradient_into-requires
gradient_into-requires c =
    cut_fits c.requires c.requires.middle_ready 0ᶠ None c.scan_lent-swept.ensures.0 _ _ _ c.in-Some.is

pub returns-in-None : goal.returns-in-None
returns-in-None c =
    let a = c.args in
    let w = c.scan_lent-swept in
    middle_passes a.self a.rows.n a.rows.table.now a.rows.x.now a.grad.now w.result.scan w.result.cursor (search rules) c.after_middle-after.result
    w.ensures.0 w.ensures.1 c.in-None.is c.after_middle-after.ensures _ c.assess_sign.ensures

pub returns-in-Some : goal.returns-in-Some
returns-in-Some c =
    let a = c.args in
    let w = c.scan_lent-swept in
    middle_breaks a.self a.rows.n a.rows.table.now a.rows.x.now a.grad.now w.result.scan w.result.cursor (search rules) c.after_middle.result
    w.ensures.0 w.ensures.1 _ _ _ c.in-Some.is c.after_middle.ensures _ _ (c.band_beta-beta.ensures, c.gradient_into.ensures)
