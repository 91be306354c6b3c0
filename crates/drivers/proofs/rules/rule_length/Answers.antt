-- `drivers::rules::rule_length` meets its contract. Assumes nothing.
use mathlib.Core.Path.{◌≡◌}
use Prim.Native.Nat.{ℕ, ◌≤◌, ◌+◌, ◌*◌, ◌^◌}
use native.Mathlib.Nat.{mul-le-mul, pow-le-pow_left, pow-le-pow_right}
use native.Mathlib.Omega.{arith}
use Rattle.drivers.specs.declared.rules.Rule.{Rule}
use Rattle.drivers.specs.Rules.{rule_at, rule_length}
use Rattle.drivers.specs.laws.Rules.{rule_small}
use Rattle.drivers.proofs.rules.rule_length.Goals as goal

small : (i : ℕ) (r : Rule) → r ≡ rule_at i → (r.base ≤ 24) × (r.factor ≤ 8) × (r.power ≤ 2)
small i r e = rw e (rule_small i)

power : (n k : ℕ) → n ≤ 32 → k ≤ 2 → n ^ k ≤ 1024
power n k b d =
    let q : n ^ k ≤ 32 ^ k = pow-le-pow_left b k in
    let r : 32 ^ k ≤ 32 ^ 2 = pow-le-pow_right (omega arith) d in
    omega arith

product : (f p n k : ℕ) → p ≡ n ^ k → f ≤ 8 → n ≤ 32 → k ≤ 2 → f * p ≤ 8192
product f p n k e a b d =
    let t : p ≤ 1024 = omega (arith, e, power n k b d) in
    let s : f * p ≤ 8 * 1024 = mul-le-mul a t in
    omega arith

is : (i n p : ℕ) (r : Rule) → r ≡ rule_at i → p ≡ n ^ r.power → r.base + r.factor * p ≡ rule_length i n
unfolding rule_length
is i n p r e d = rw (d, e)

pub overflow_mul-result : goal.overflow_mul-result
overflow_mul-result c =
    let s = small _ _ c.rule_at-rule.ensures in
    let p = product c.rule_at-rule.result.factor c.pow.result c.args.n c.rule_at-rule.result.power c.pow.ensures s.1 c.requires s.2 in
    record { fits = omega arith }

pub overflow_add-result : goal.overflow_add-result
overflow_add-result c =
    let s = small _ _ c.rule_at-rule.ensures in
    let p = product c.rule_at-rule.result.factor c.pow.result c.args.n c.rule_at-rule.result.power c.pow.ensures s.1 c.requires s.2 in
    record { fits = omega arith }

pub returns : goal.returns
returns c =
    is _ _ _ _ c.rule_at-rule.ensures c.pow.ensures

pub pow-requires : goal.pow-requires
pow-requires c = omega (arith, power _ _ c.requires (small _ _ c.rule_at-rule.ensures).2)
