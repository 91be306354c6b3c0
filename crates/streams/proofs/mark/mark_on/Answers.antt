-- `streams::mark::mark_on` meets its contract.
use Rattle.std.proofs.Common.{◌≡◌, List, ℕ, subst, rules}
use Rattle.std.proofs.lemmas.Fn.{fold_over, slice_gives, fronts}
use Rattle.streams.specs.Mark.{marked}
use Rattle.streams.specs.laws.Mark.{marked_none, marked_push}
use Rattle.streams.proofs.mark.mark_on.Goals as goal

-- the bytes so far have this mark
pub returns : goal.returns
returns c =
    let from = c.args.from in
    subst (λ (l : List ℕ). c.fold.result ≡ marked from l) c.iter.ensures.rest
    (fold_over fronts (λ y. y.now) _ (λ ys m. m ≡ marked from ys) _
    (λ ys a x b f' j k. let more = marked_push from ys x.now in search rules)
    _ _ _ _ (slice_gives c.iter.result) (marked_none from) c.fold.ensures.ran)
