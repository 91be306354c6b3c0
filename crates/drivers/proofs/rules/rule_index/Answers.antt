-- `drivers::rules::rule_index` meets its contract. Assumes nothing.
use Rattle.std.proofs.Common.{ℕ, ap, ◌∙◌}
use Rattle.std.specs.Prelude.{Option}
use Rattle.std.specs.Option.{unwrap_or}
use Rattle.drivers.specs.Rules.{rules}
use Rattle.drivers.specs.laws.Rules.{index_is}
use Rattle.drivers.proofs.rules.rule_index.Goals as goal

pub returns : goal.returns
unfolding rules
returns c = c.unwrap_or.ensures ∙ ap (λ (o : Option ℕ). unwrap_or o 12) c.place_in.ensures ∙ index_is c.args.tag
