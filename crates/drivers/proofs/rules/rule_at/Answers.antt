-- `drivers::rules::rule_at` meets its contract: the code's table is that of document 01. Assumes nothing.
use mathlib.Core.Path.{◌≡◌, sym}
use Prim.Native.Nat.{ℕ, ◌≤◌}
use lib.ListN.{get_or-eq_default}
use Rattle.drivers.specs.Rules.{no_rule, tags, rules, rule_at}
use Rattle.drivers.specs.laws.Rules.{rule_within}
use Rattle.drivers.proofs.rules.rule_at.Goals as goal

outside : (i : ℕ) → tags ≤ i → no_rule ≡ rule_at i
unfolding rule_at rules
outside i h = sym (get_or-eq_default rules no_rule h)

pub returns-then-i-lt-TAGS : goal.returns-then-i-lt-TAGS
unfolding rules
returns-then-i-lt-TAGS c = rule_within _ _ c.if-i-lt-TAGS.true

pub returns : goal.returns
returns c = outside _ c.if-i-lt-TAGS.false
