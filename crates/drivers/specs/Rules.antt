-- The table of tags (document 01, "Job and answer records"): the forms of record that have a tag, how often it stands there, and the length of its content. Definitions only.
use Rattle.std.specs.Prelude.{ℕ, suc, ◌+◌, ◌*◌, ◌^◌, Bool, true, false, List, [], ◌∷◌, Some, None, eqb, get_or}
use Rattle.numbers.specs.Pick.{pick}
use Rattle.drivers.specs.declared.rules.Rule.{Rule}
use Rattle.drivers.specs.declared.rules.Form.{Form}
use Rattle.drivers.specs.declared.rules.Form.TheVariants.{Job, Answer}
use Rattle.drivers.specs.declared.rules.Often.{Often}
use Rattle.drivers.specs.declared.rules.Often.TheVariants.{Once, Many, Maybe}

-- the tags of a job, and of an answer
abbrev pub n_tag : ℕ
n_tag = 0x01

abbrev pub bands_tag : ℕ
bands_tag = 0x02

abbrev pub limits_tag : ℕ
limits_tag = 0x03

abbrev pub row_tag : ℕ
row_tag = 0x04

abbrev pub point_tag : ℕ
point_tag = 0x05

abbrev pub cursors_tag : ℕ
cursors_tag = 0x06

abbrev pub kappa_tag : ℕ
kappa_tag = 0x07

abbrev pub matrix_tag : ℕ
matrix_tag = 0x08

abbrev pub settings_tag : ℕ
settings_tag = 0x09

abbrev pub outcome_tag : ℕ
outcome_tag = 0x20

abbrev pub steps_tag : ℕ
steps_tag = 0x21

abbrev pub found_tag : ℕ
found_tag = 0x22

-- a tag's rule: the form of record that has it, base, factor and power of n, how often it stands
abbrev pub rule : ℕ → Form → ℕ → ℕ → ℕ → Often → Rule
rule tag form base factor power often = record { tag = tag; form = Some form; base = base; factor = factor; power = power; often = often }

-- document 01's table
unfoldable pub rules : List Rule
rules =
    rule n_tag Job 2 0 0 Once
    ∷ rule bands_tag Job 4 0 0 Once
    ∷ rule limits_tag Job 24 0 0 Once
    ∷ rule row_tag Job 0 8 1 Many
    ∷ rule point_tag Job 0 8 1 Once
    ∷ rule cursors_tag Job 6 0 0 Once
    ∷ rule kappa_tag Job 8 0 0 Once
    ∷ rule matrix_tag Job 0 8 2 Once
    ∷ rule settings_tag Job 10 0 0 Once
    ∷ rule outcome_tag Answer 1 0 0 Once
    ∷ rule steps_tag Answer 2 0 0 Once
    ∷ rule found_tag Answer 0 8 1 Maybe
    ∷ []

-- its rows by name, and how many there are
abbrev pub n_place : ℕ
n_place = 0

abbrev pub bands_place : ℕ
bands_place = 1

abbrev pub limits_place : ℕ
limits_place = 2

abbrev pub row_place : ℕ
row_place = 3

abbrev pub point_place : ℕ
point_place = 4

abbrev pub cursors_place : ℕ
cursors_place = 5

abbrev pub kappa_place : ℕ
kappa_place = 6

abbrev pub matrix_place : ℕ
matrix_place = 7

abbrev pub settings_place : ℕ
settings_place = 8

abbrev pub outcome_place : ℕ
outcome_place = 9

abbrev pub steps_place : ℕ
steps_place = 10

abbrev pub found_place : ℕ
found_place = 11

abbrev pub tags : ℕ
tags = 12

-- what no tag of the table has: no form
abbrev pub no_rule : Rule
no_rule = record { tag = 0; form = None; base = 0; factor = 0; power = 0; often = Once }

-- rule i; past the table that of no tag
unfoldable pub rule_at : ℕ → Rule
unfolding rules
rule_at i = get_or rules i no_rule

-- the two forms of record
abbrev pub job_form : Form
job_form = Job

abbrev pub answer_form : Form
answer_form = Answer

abbrev pub same_form : Form → Form → Bool
same_form Job Job = true
same_form Job Answer = false
same_form Answer Job = false
same_form Answer Answer = true

-- a rule's tag is one of the form's
abbrev pub has_tag : Form → Rule → Bool
has_tag form r = elim r.form [ None ↦ false | Some own ↦ same_form own form ]

abbrev pub is_of : Form → ℕ → Bool
is_of form i = has_tag form (rule_at i)

-- how often it may stand
abbrev pub is_many : Often → Bool
is_many Once = false
is_many Many = true
is_many Maybe = false

abbrev pub is_maybe : Often → Bool
is_maybe Once = false
is_maybe Many = false
is_maybe Maybe = true

abbrev pub repeats : ℕ → Bool
repeats i = is_many (rule_at i).often

abbrev pub optional : ℕ → Bool
optional i = is_maybe (rule_at i).often

-- a tag's place in the table, 12 where it is not there
unfoldable pub index_in : List Rule → ℕ → ℕ
index_in [] tag = 0
index_in (r ∷ rs) tag = pick (eqb r.tag tag) 0 (suc (index_in rs tag))

unfoldable pub index_of : ℕ → ℕ
unfolding rules index_in
index_of tag = index_in rules tag

-- the bytes that a field's content must have: base + factor × n ^ power
unfoldable pub rule_length : ℕ → ℕ → ℕ
unfolding rule_at
rule_length i n = (rule_at i).base + (rule_at i).factor * n ^ (rule_at i).power
