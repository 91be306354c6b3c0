-- `oracles::ldlt_mgr::Lmi::factor_rows` meets its contract. Assumes nothing.
use mathlib.Core.Path.{refl}
use native.Mathlib.Omega.{arith}
use borrow.Author.Rules.{rules}
use Rattle.oracles.proofs.ldlt_mgr.Laws.{rows_start, rows_long, rows_factored, rows_turn, rows_stop, rows_done, definite, stopped_at}
use Rattle.oracles.proofs.ldlt_mgr.Lmi.factor_rows.Goals as goal

pub loop-i-init : goal.loop-i-init
loop-i-init c = rows_start _ _ _ (search rules)

pub factor_row-diag-requires : goal.factor_row-diag-requires
factor_row-diag-requires c =
    let l = c.loop-i in
    (search rules, rows_long _ _ _ _ _ l.invariant, rows_factored _ _ _ _ _ l.invariant (search rules))

pub returns-then-diag : goal.returns-then-diag
returns-then-diag c =
    let f = c.factor_row-diag in
    stopped_at _ _ _ _ _ (rows_stop _ _ _ _ _ c.loop-i.invariant _ _ (search rules) f.ensures.1 f.ensures.0 c.if-diag.true) (λ q. absurd (omega (arith, q)))

pub loop-i-preserved : goal.loop-i-preserved
loop-i-preserved c =
    let f = c.factor_row-diag in
    rows_turn _ _ _ _ _ c.loop-i.invariant _ _ (search rules) f.ensures.1 f.ensures.0 c.if-diag.false

pub returns : goal.returns
returns c = definite _ _ _ _ _ (rows_done _ _ _ _ _ c.loop-i.invariant (search rules)) refl
