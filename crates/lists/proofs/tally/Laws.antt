-- What the proofs of `tally` cite. Assumes nothing.
use Rattle.std.proofs.Common.{◌≡◌, ℕ, ◌<◌, ◌≤◌, min, List, slice_index_or, slice_set, Option, Some, None, Result, Ok, Err, sym, refl, ap, ◌∙◌, eq-eqb, ne_eqb, le-leb}
use borrow.Author.Tests.{lt-leb}
use Rattle.lists.specs.Words.{first_diff}
use Rattle.lists.specs.Tally.{words_verdict, wordless_verdict, verdict_of, at_difference, no_counts, unknown_more, both_counted, counted, tallied}
use Rattle.lists.specs.declared.tally.Unreplayed.{Unreplayed}
use Rattle.lists.specs.declared.tally.Verdict.{Verdict}
use Rattle.lists.specs.declared.tally.Verdict.TheVariants.{Agrees, Differs}
use Rattle.lists.specs.declared.tally.Counts.{Counts}
use Rattle.lists.specs.declared.tally.Tally.{Tally}
use Rattle.numbers.specs.laws.Pick.{hit, skip}

-- an operation past the table, and one in it
pub tally_over : (t r : Tally) (op : ℕ) (v : Verdict) → 256 ≤ op → r ≡ unknown_more t → r ≡ tallied t op v
unfolding tallied
tally_over t r op v h e = hit _ _ _ _ (le-leb 256 op h) e

pub tally_under : (t r : Tally) (op : ℕ) (v v' : Verdict) → op < 256 → v ≡ v' → r ≡ counted t op v' → r ≡ tallied t op v
unfolding tallied
tally_under t r op v v' h p e = skip _ _ _ _ (lt-leb 256 op h) (e ∙ ap (counted t op) (sym p))

-- both counts of a case
pub both : (t : Tally) (op : ℕ) (f : Counts → Counts) (a b : Counts) → a ≡ f (slice_index_or t.ops op no_counts) → b ≡ f t.all
    → record { ops = slice_set t.ops op a; all = b; unknown = t.unknown } ≡ both_counted t op f
both t op f a b p q = λ i. record { ops = slice_set t.ops op (p i); all = q i; unknown = t.unknown }

-- words that came: a different one, none and as many, none and fewer or more
module _ (outs : ℕ) (expected got : List ℕ) (replayed : Result ℕ Unreplayed) (n both : ℕ) (d : Option ℕ) (p : replayed ≡ Ok n) (m : both ≡ min n outs) (f : d ≡ first_diff expected got 0 both) where
  by_difference : (e : Option ℕ) (r : Verdict) → d ≡ e → r ≡ at_difference outs n e → r ≡ verdict_of outs expected replayed got
  unfolding verdict_of words_verdict
  by_difference e r q h =
      let g : first_diff expected got 0 (min n outs) ≡ e = ap (first_diff expected got 0) (sym m) ∙ sym f ∙ q in
      rw (p, g) h

  pub word_differs : (k : ℕ) → d ≡ Some k → Differs k ≡ verdict_of outs expected replayed got
  word_differs k q = by_difference (Some k) (Differs k) q refl

  pub all_agree : d ≡ None → n ≡ outs → Agrees ≡ verdict_of outs expected replayed got
  all_agree q h = by_difference None Agrees q (hit _ _ _ _ (eq-eqb n outs h) refl)

  pub count_differs : d ≡ None → (n ≡ outs → ⊥) → Differs both ≡ verdict_of outs expected replayed got
  count_differs q h = by_difference None (Differs both) q (skip _ _ _ _ (ne_eqb n outs h) (ap Differs m))

-- what came was no words
pub no_words : (outs : ℕ) (expected got : List ℕ) (replayed : Result ℕ Unreplayed) (why : Unreplayed) (r : Verdict) → replayed ≡ Err why → r ≡ wordless_verdict why → r ≡ verdict_of outs expected replayed got
unfolding verdict_of
no_words outs expected got replayed why r p e = rw p e
