-- `oracles::lowpass_oracle::LowpassOracle::assess_feas` meets its contract. Assumes nothing.
use Rattle.oracles.specs.laws.Assess.{assessable_of, accepted_of}
use Rattle.oracles.proofs.lowpass_oracle.Answers.{tests_refuse, tests_accept, assessed}
use Rattle.oracles.proofs.lowpass_oracle.LowpassOracle.assess_feas.Goals as goal

pub assess-requires : goal.assess-requires
assess-requires c =
    let a = c.args in
    assessable_of a.self a.n a.rows a.table.now a.x.now a.grad.now (accepted_of a.self a.n a.rows a.table.now a.x.now a.grad.now (tests_accept a.self a.n a.rows a.table.now a.x.now a.grad.now c.first_refusal-tests.ensures c.is_dimension.ensures c.table_fits.ensures c.bands_fit.ensures c.cursors_fit.ensures c.in-Ok.is))

pub returns-in-Ok : goal.returns-in-Ok
returns-in-Ok c =
    let a = c.args in
    let p = assessed a.self a.n a.rows a.table.now a.x.now a.grad.now _ _ (tests_accept a.self a.n a.rows a.table.now a.x.now a.grad.now c.first_refusal-tests.ensures c.is_dimension.ensures c.table_fits.ensures c.bands_fit.ensures c.cursors_fit.ensures c.in-Ok.is) c.assess.ensures in
    record { grad_after = p.0; by_feas_rule = p.1 }

pub returns-in-Err : goal.returns-in-Err
returns-in-Err c =
    let a = c.args in
    let p = tests_refuse a.self a.n a.rows a.table.now a.x.now a.grad.now c.first_refusal-tests.ensures c.is_dimension.ensures c.table_fits.ensures c.bands_fit.ensures c.cursors_fit.ensures c.in-Err.is in
    record { grad_after = p.0; by_feas_rule = p.1 }
