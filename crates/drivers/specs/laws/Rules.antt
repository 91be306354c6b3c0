-- Laws of the table of tags. Assumes nothing.
use Rattle.std.specs.Prelude.{◌≡◌, refl, Bool, true, false, ◌&&◌, List, [], ◌∷◌, ℕ, zero, suc, ◌≤◌, ◌<◌, ◌+◌, leb, ltb, eqb, get_or, position, cond, not, nat_lt, Some, None, drop}
use Rattle.std.specs.List.{position_or_len}
use Rattle.std.proofs.lemmas.List.Recursion.{is_position_or_len}
use Rattle.std.proofs.lemmas.List.Sums.{prefix_len-le-length}
use Rattle.std.specs.Option.{unwrap_or}
use Rattle.std.proofs.Common.{sym, ap, ◌∙◌, true≢false, ltb-true, ltb-false, leb-true, ne_eqb, drop-cons, add-one, eq-eqb}
use Rattle.std.proofs.Math.Bool.{and-eq-true_iff}
use Rattle.std.proofs.lemmas.Bool.{eqb-true, eqb-false}
use native.Mathlib.Omega.{arith}
use Rattle.std.proofs.Math.ListN.{get_or-eq_default}
use Rattle.numbers.specs.Pick.{pick}
use Rattle.numbers.specs.laws.Pick.{by_test, is_hit, is_skip}
use Rattle.drivers.specs.declared.rules.Rule.{Rule}
use Rattle.drivers.specs.declared.rules.Form.{Form}
use Rattle.drivers.specs.Rules.{no_rule, row_place, tags, has_tag, is_of, rules, rule_at, index_in, index_of}

-- a test that every rule of a list passes, and the one past its end
holds_of_all : (Rule → Bool) → List Rule → Bool
holds_of_all f [] = true
holds_of_all f (r ∷ rs) = f r && holds_of_all f rs

each_holds : (f : Rule → Bool) (rs : List Rule) (d : Rule) → holds_of_all f rs ≡ true → f d ≡ true → (i : ℕ) → f (get_or rs i d) ≡ true
unfolding holds_of_all
each_holds f [] d h e i = e
each_holds f (r ∷ rs) d h e zero = ((and-eq-true_iff (f r) (holds_of_all f rs)).0 h).0
each_holds f (r ∷ rs) d h e (suc i) = each_holds f rs d ((and-eq-true_iff (f r) (holds_of_all f rs)).0 h).1 e i

is_small : Rule → Bool
is_small r = leb r.base 24 && (leb r.factor 8 && leb r.power 2)

-- a field's length is far below a word's limit
pub rule_small : (i : ℕ) → ((rule_at i).base ≤ 24) × ((rule_at i).factor ≤ 8) × ((rule_at i).power ≤ 2)
unfolding rule_at rules holds_of_all is_small
rule_small i =
    let r = rule_at i in
    let h : is_small (rule_at i) ≡ true = each_holds is_small rules no_rule refl refl i in
    let a = (and-eq-true_iff (leb r.base 24) (leb r.factor 8 && leb r.power 2)).0 h in
    let b = (and-eq-true_iff (leb r.factor 8) (leb r.power 2)).0 a.1 in
    (leb-true r.base 24 a.0, leb-true r.factor 8 b.0, leb-true r.power 2 b.1)

-- an element that is read within the table, whatever is read past it
pub rule_within : (i : ℕ) (d : Rule) → i < 12 → get_or rules i d ≡ rule_at i
unfolding rule_at rules
rule_within i d h =
    let a = drop-cons rules i d h in
    let b = drop-cons rules i no_rule h in
    cc

-- the search for a tag: none passed, one that is found, one passed, and none left
module _ (tag : ℕ) where
  pub index_start : index_of tag ≡ 0 + index_in (drop 0 rules) tag
  unfolding index_of
  index_start = omega arith

  rule_next : (i : ℕ) → i < 12 → index_in (drop i rules) tag ≡ pick (eqb (rule_at i).tag tag) 0 (suc (index_in (drop (i + 1) rules) tag))
  unfolding rule_at index_in
  rule_next i h = rw (drop-cons rules i no_rule h, add-one)

  module _ (i : ℕ) (r : Rule) (is : r ≡ rule_at i) (h : i < 12) where
    pub index_found : r.tag ≡ tag → index_of tag ≡ i + index_in (drop i rules) tag → i ≡ index_of tag
    index_found e k =
        let t : eqb (rule_at i).tag tag ≡ true = rw (← is) (eq-eqb r.tag tag e) in
        omega (arith, k, rule_next i h ∙ is_hit _ _ _ t)

    pub index_turn : (r.tag ≡ tag → ⊥) → index_of tag ≡ i + index_in (drop i rules) tag → index_of tag ≡ i + 1 + index_in (drop (i + 1) rules) tag
    index_turn e k =
        let t : eqb (rule_at i).tag tag ≡ false = rw (← is) (ne_eqb r.tag tag e) in
        omega (arith, k, rule_next i h ∙ is_skip _ _ _ t)

  pub index_end : (i : ℕ) → i ≡ 12 → index_of tag ≡ i + index_in (drop i rules) tag → i ≡ index_of tag
  unfolding index_in rules
  index_end i e k = omega (arith, k, none i e)
    where
      none : (i : ℕ) → i ≡ 12 → index_in (drop i rules) tag ≡ 0
      none i e = rw e

-- a row is known by its tag alone
pub row_is : (tag : ℕ) → eqb tag 4 ≡ eqb (index_of tag) row_place
unfolding index_of rules index_in
row_is tag =
    by_test Same (eqb 1 tag) _ _ (λ e. rw (← eqb-true 1 tag e) refl) (λ _.
    by_test (λ i. Same (suc i)) (eqb 2 tag) _ _ (λ e. rw (← eqb-true 2 tag e) refl) (λ _.
    by_test (λ i. Same (suc (suc i))) (eqb 3 tag) _ _ (λ e. rw (← eqb-true 3 tag e) refl) (λ _.
    by_test (λ i. Same (suc (suc (suc i)))) (eqb 4 tag) _ _ (λ e. rw (← eqb-true 4 tag e) refl) (λ e. past (eqb-false 4 tag e) _))))
  where
    Same : ℕ → Type 0
    Same i = eqb tag 4 ≡ eqb i 3

    past : (4 ≡ tag → ⊥) → (i : ℕ) → Same (suc (suc (suc (suc i))))
    past h i = ne_eqb tag 4 (λ d. h (sym d)) ∙ sym (ne_eqb (suc (suc (suc (suc i)))) 3 (λ d. omega (arith, d)))

-- a tag that a form has is in the table
pub is_of_listed : (form : Form) (i : ℕ) → is_of form i ≡ true → i < tags
unfolding rule_at rules
is_of_listed form i h = go (ltb i tags) refl
  where
    go : (t : Bool) → ltb i tags ≡ t → i < tags
    go true e = ltb-true i tags e
    go false e =
        absurd (true≢false (sym h ∙ ap (has_tag form) (get_or-eq_default rules no_rule (ltb-false i tags e))))

-- the library's search for a tag
pick_cond : (t : Bool) (n : ℕ) → pick t 0 (suc n) ≡ cond t 0 (1 + n)
unfolding pick
pick_cond true n = refl
pick_cond false n = omega arith

index_none : (tag : ℕ) → index_in [] tag ≡ 0
unfolding index_in
index_none tag = refl

index_next : (tag : ℕ) (r : Rule) (rs : List Rule) → index_in (r ∷ rs) tag ≡ cond (eqb r.tag tag) 0 (1 + index_in rs tag)
unfolding index_in
index_next tag r rs = pick_cond (eqb r.tag tag) (index_in rs tag)

or_last : (n m : ℕ) → n ≤ m → unwrap_or (cond (nat_lt n m) (Some n) None) m ≡ n
or_last n m h = go (nat_lt n m) refl
  where
    go : (t : Bool) → nat_lt n m ≡ t → unwrap_or (cond (nat_lt n m) (Some n) None) m ≡ n
    go true e = rw e refl
    go false e = rw e (omega (arith, ltb-false n m e))

pub index_is : (tag : ℕ) → unwrap_or (position (λ (r : Rule). eqb r.tag tag) rules) 12 ≡ index_of tag
unfolding index_of rules
index_is tag =
    let p : Rule → Bool = λ r. eqb r.tag tag in
    or_last (position_or_len p rules) 12 (prefix_len-le-length (λ r. not (p r)) rules)
    ∙ sym (is_position_or_len (λ rs. index_in rs tag) p (index_none tag) (index_next tag) rules)
