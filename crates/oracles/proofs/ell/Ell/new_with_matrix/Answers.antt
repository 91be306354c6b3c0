-- `oracles::ell::Ell::new_with_matrix` meets its contract. Assumes nothing.
use Rattle.std.specs.Prelude.{Ok, Err}
use Rattle.std.proofs.Common.{sym, ◌∙◌}
use Rattle.std.proofs.lemmas.Result.{err_from_is_err_and}
use Rattle.numbers.specs.F64.{0ᶠ}
use Rattle.oracles.specs.Ell.{new_ell_answer}
use Rattle.oracles.proofs.ell_common.Laws.{made_from}
use Rattle.oracles.proofs.ell.Ell.new_with_matrix.Goals as goal

pub returns-in_err-new : goal.returns-in_err-new
unfolding new_ell_answer
returns-in_err-new c =
    let a = c.args in
    let p = err_from_is_err_and c.from_residual.result c.from_residual.ensures.1 in
    rw (p.1, p.2) (made_from Err (λ helper. Ok (record { ndim = a.n; kappa = a.kappa; helper = helper; tsq = 0ᶠ })) a.n _ (sym c.in_err-new.was ∙ c.new.ensures))

pub returns : goal.returns
unfolding new_ell_answer
returns c =
    let a = c.args in
    made_from Err (λ helper. Ok (record { ndim = a.n; kappa = a.kappa; helper = helper; tsq = 0ᶠ })) a.n _ (sym c.in_ok-new.was ∙ c.new.ensures)
