-- `ponduvizh::run_numbers::put_state` meets its contract. Assumes nothing.
use Rattle.ponduvizh.proofs.run_numbers.Laws.{state_law}
use borrow.Author.Rules.{rules}
use Rattle.ponduvizh.proofs.run_numbers.put_state.Goals as goal

pub returns : goal.returns
returns c = search (rules, state_law)
