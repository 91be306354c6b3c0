-- `oracles::lowpass_oracle::LowpassOracle::assess` meets its contract. Assumes nothing.
use Rattle.oracles.proofs.lowpass_oracle.Steps.{cut_fits, pass_assessable, pass_passes, pass_breaks}
use Rattle.std.specs.Prelude.{Some}
use Rattle.oracles.proofs.lowpass_oracle.LowpassOracle.assess.Goals as goal
use borrow.Author.Rules.{rules}

pub assess_stop-requires : goal.assess_stop-requires
assess_stop-requires c =
    pass_assessable c.requires c.scan_lent-swept.ensures.0 c.scan_lent-swept.ensures.1 c.after_pass-after.ensures

pub gradient_into-requires : goal.gradient_into-requires
gradient_into-requires c =
    cut_fits c.requires c.requires.pass_ready c.args.self.lp_sq (Some c.args.self.up_sq) c.scan_lent-swept.ensures.0 _ _ _ c.in-Some.is

pub returns-in-None : goal.returns-in-None
returns-in-None c =
    let a = c.args in
    let w = c.scan_lent-swept in
    pass_passes a.self a.rows.n a.rows.table.now a.rows.x.now a.grad.now w.result.scan w.result.cursor (search rules)
    c.after_pass-after.result w.ensures.0 w.ensures.1 c.after_pass-after.ensures c.in-None.is _ c.assess_stop.ensures

pub returns-in-Some : goal.returns-in-Some
returns-in-Some c =
    let a = c.args in
    let w = c.scan_lent-swept in
    pass_breaks a.self a.rows.n a.rows.table.now a.rows.x.now a.grad.now w.result.scan w.result.cursor (search rules)
    c.after_pass-after.result w.ensures.0 w.ensures.1 c.after_pass-after.ensures _ _ _ c.in-Some.is _ _ (c.band_beta-beta.ensures, c.gradient_into.ensures)
