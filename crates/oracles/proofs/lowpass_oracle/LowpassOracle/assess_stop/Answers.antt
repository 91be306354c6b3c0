-- `oracles::lowpass_oracle::LowpassOracle::assess_stop` meets its contract. Assumes nothing.
use lib.Ieee
use Rattle.std.specs.Prelude.{Some}
use Rattle.numbers.specs.F64.{0ᶠ}
use Rattle.oracles.proofs.lowpass_oracle.Steps.{cut_fits, stop_assessable, stop_passes, stop_breaks}
use Rattle.oracles.proofs.lowpass_oracle.LowpassOracle.assess_stop.Goals as goal
use borrow.Author.Rules.{rules}

pub assess_middle-requires : goal.assess_middle-requires
assess_middle-requires c =
    stop_assessable c.requires c.scan_lent-swept.ensures.0 c.scan_lent-swept.ensures.1 c.after_stop-after.ensures

pub gradient_into-requires : goal.gradient_into-requires
gradient_into-requires c =
    cut_fits c.requires c.requires.stop_ready 0ᶠ (Some c.args.self.sp_sq) c.scan_lent-swept.ensures.0 _ _ _ c.in-Some.is

pub returns-in-None : goal.returns-in-None
returns-in-None c =
    let a = c.args in
    let w = c.scan_lent-swept in
    stop_passes a.self a.rows.n a.rows.table.now a.rows.x.now a.grad.now w.result.scan w.result.cursor (search rules) c.after_stop-after.result w.ensures.0 w.ensures.1 (search rules)
    c.in-None.is c.after_stop-after.ensures _ c.assess_middle.ensures

pub returns-in-Some : goal.returns-in-Some
unfolding Ieee.div Ieee.neg Ieee.of_bits
returns-in-Some c =
    let a = c.args in
    let w = c.scan_lent-swept in
    stop_breaks a.self a.rows.n a.rows.table.now a.rows.x.now a.grad.now w.result.scan w.result.cursor (search rules) c.after_stop.result w.ensures.0 w.ensures.1 _ _ _
    c.in-Some.is c.after_stop.ensures _ _ (c.band_beta-beta.ensures, c.gradient_into.ensures)
