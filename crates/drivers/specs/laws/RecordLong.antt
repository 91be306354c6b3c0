-- How long a job's record is that its reader takes: each field has the length that the table asks, and each tag stands as often as it may. Assumes nothing.
use Prim.Native.Nat.{ℕ, zero, suc, ◌+◌, ◌-◌, ◌≤◌, ◌<◌}
use Rattle.std.specs.Prelude.{◌≡◌, refl, Bool, true, false, not, ◌&&◌, leb, ltb, List, [], ◌∷◌, length, set, is_err}
use Rattle.std.proofs.Common.{sym, ap, ◌∙◌, arith, ltb-true, ltb-false, lt-ltb, le-ltb, eqb-true, eq-eqb, ne_eqb, true≢false}
use Rattle.std.proofs.Math.Dec.{eqb}
use Rattle.std.proofs.Math.ListN.{length-set}
use Rattle.std.proofs.lemmas.Bool.{not-true, eqb-false}
use Rattle.std.proofs.lemmas.List.{get_or-set_same, get_or-set_other}
use Rattle.numbers.specs.Pick.{pick}
use Rattle.numbers.specs.Refusal.{◌⨾◌, ask_at, Sound, Tests}
use Rattle.numbers.specs.declared.refusal.Refusal.TheVariants.{Length, CutShort, ForeignTag, RepeatedTag}
use Rattle.numbers.specs.laws.Pick.{is_hit, is_skip, by_test}
use Rattle.numbers.specs.laws.Refusal.{both_sound, ask_sound, no_fault}
use Rattle.drivers.specs.declared.rules.Form.{Form}
use Rattle.drivers.specs.Record.{length_at, index_at, overruns, after, content_of, fields_from, is_met, place, first_place, noted, field_fault, walk_of, lengths_fault}
use Rattle.drivers.specs.Rules.{is_of, repeats, rule_length, tags}
use Rattle.drivers.specs.laws.Rules.{is_of_listed}
use Rattle.drivers.specs.laws.Fields.{first_sound}

-- the bytes of a field of a tag, by the table
abbrev pub size_of : ℕ → ℕ → ℕ
size_of n i = 3 + rule_length i n

-- of some fields, and of those whose tag may repeat
unfoldable pub sized_by : ℕ → List ℕ → List ℕ → ℕ
sized_by n bytes [] = 0
sized_by n bytes (at ∷ rest) = size_of n (index_at bytes at) + sized_by n bytes rest

unfoldable pub many_by : ℕ → List ℕ → List ℕ → ℕ
many_by n bytes [] = 0
many_by n bytes (at ∷ rest) = pick (repeats (index_at bytes at)) (size_of n (index_at bytes at)) 0 + many_by n bytes rest

-- of a form's tags below k that stand once and have not been met
abbrev is_unmet : Form → List ℕ → ℕ → Bool
is_unmet form places k = is_of form k && not (repeats k) && eqb (place places k) 0

unfoldable pub unmet : Form → ℕ → List ℕ → ℕ → ℕ
unmet form n places zero = 0
unmet form n places (suc k) = unmet form n places k + pick (is_unmet form places k) (size_of n k) 0

-- ---- what a field without a fault has

record FieldSound (bytes : List ℕ) (form : Form) (places : List ℕ) (at : ℕ) : Type 0 where
  of_form : is_of form (index_at bytes at) ≡ true
  fresh : repeats (index_at bytes at) ≡ false → place places (index_at bytes at) ≡ 0
  whole : overruns bytes at ≡ false

field_held : (bytes : List ℕ) (form : Form) (places : List ℕ) (at : ℕ) → is_err (field_fault bytes form places at) ≡ false → FieldSound bytes form places at
unfolding field_fault
field_held bytes form places at h =
    let i = index_at bytes at in
    let last = ask_at at (not (overruns bytes at)) CutShort in
    let once = ask_at at (not (is_met places i && not (repeats i))) RepeatedTag in
    let own = ask_at at (is_of form i) ForeignTag in
    let a = both_sound (ask_at at (leb 3 (length bytes - at)) CutShort) (own ⨾ once ⨾ last) (no_fault (field_fault bytes form places at) h) in
    let b = both_sound own (once ⨾ last) a.1 in
    let c = both_sound once last b.1 in
    record {
      of_form = ask_sound (is_of form i) ForeignTag at b.0;
      fresh = λ r. once_unmet (place places i) (repeats i) r (ask_sound _ RepeatedTag at c.0);
      whole = not-true _ (ask_sound _ CutShort at c.1);
    }
  where
    once_unmet : (p : ℕ) (r : Bool) → r ≡ false → not (not (eqb p 0) && not r) ≡ true → p ≡ 0
    once_unmet p true e h = absurd (true≢false e)
    once_unmet p false e h = go (eqb p 0) refl h
      where
        go : (t : Bool) → eqb p 0 ≡ t → not (not t && true) ≡ true → p ≡ 0
        go true k h = eqb-true p 0 k
        go false k h = absurd (true≢false (sym h))

-- ---- a record's bytes are those of its fields

unfoldable pub Whole : List ℕ → List ℕ → Type 0
Whole bytes [] = Unit {0}
Whole bytes (at ∷ rest) = (overruns bytes at ≡ false) × Whole bytes rest

pub walk_whole : (bytes : List ℕ) (form : Form) (ats places places' : List ℕ) → walk_of bytes form ats places ≡ (Sound, places') → Whole bytes ats
unfolding Whole walk_of
walk_whole bytes form [] places places' e = tt
walk_whole bytes form (at ∷ rest) places places' e =
    let g = field_fault bytes form places at in
    let p = noted places (index_at bytes at) (content_of bytes at) in
    let t = first_sound g places (walk_of bytes form rest p) places' e in
    ((field_held bytes form places at t).whole, walk_whole bytes form rest p places' (sym (is_skip (is_err g) (g, places) _ t) ∙ e))

-- the fields that `fuel` finds from `at` on
pub bytes_of_fields : (bytes : List ℕ) (n fuel at : ℕ) → length bytes ≤ at + fuel → at ≤ length bytes
    → Whole bytes (fields_from fuel bytes at) → lengths_fault n bytes (fields_from fuel bytes at) ≡ Sound
    → length bytes ≡ at + sized_by n bytes (fields_from fuel bytes at)
unfolding Whole fields_from sized_by lengths_fault after
bytes_of_fields bytes n zero at f h = λ w e. omega (arith, f, h)
bytes_of_fields bytes n (suc fuel) at f h =
    by_test (λ (l : List ℕ). Whole bytes l → lengths_fault n bytes l ≡ Sound → length bytes ≡ at + sized_by n bytes l) (ltb at (length bytes)) _ _
    (λ t w e.
    let i = index_at bytes at in
    let rest = fields_from fuel bytes (after bytes at) in
    let next : after bytes at ≡ at + (3 + length_at bytes at) = is_skip _ _ _ w.0 in
    let inside = ltb-false (length bytes - at) (3 + length_at bytes at) w.0 in
    let s = both_sound (ask_at at (eqb (length_at bytes at) (rule_length i n)) Length) (lengths_fault n bytes rest) e in
    let long = eqb-true (length_at bytes at) (rule_length i n) (ask_sound _ Length at s.0) in
    let b = ltb-true at (length bytes) t in
    omega (arith, long, next, bytes_of_fields bytes n fuel (after bytes at) (omega (arith, f, next)) (omega (arith, next, inside, b)) w.1 s.1))
    (λ t w e. omega (arith, h, ltb-false at (length bytes) t))

-- ---- and the walk goes over each tag as often as it may stand

and_none : (a : Bool) → (a && false) ≡ false
and_none true = refl
and_none false = refl

module _ (form : Form) (n : ℕ) (places : List ℕ) (i q : ℕ) where
  -- at any other tag
  other : (k : ℕ) → eqb k i ≡ false → pick (is_unmet form (set places i q) k) (size_of n k) 0 ≡ pick (is_unmet form places k) (size_of n k) 0
  other k e = ap (λ (p : ℕ). pick (is_of form k && not (repeats k) && eqb p 0) (size_of n k) 0) (get_or-set_other places i k q 0 (eqb-false k i e))

  -- meeting a tag that may repeat leaves them
  unmet_many : (k : ℕ) → repeats i ≡ true → unmet form n (set places i q) k ≡ unmet form n places k
  unfolding unmet
  unmet_many zero r = refl
  unmet_many (suc k) r = λ j. unmet_many k r j + go (eqb k i) refl j
    where
      none : (p : List ℕ) → repeats k ≡ true → pick (is_unmet form p k) (size_of n k) 0 ≡ 0
      none p t = is_skip _ _ _ (ap (λ (b : Bool). is_of form k && not b && eqb (place p k) 0) t ∙ ap (λ (b : Bool). b && eqb (place p k) 0) (and_none (is_of form k)))

      go : (t : Bool) → eqb k i ≡ t → pick (is_unmet form (set places i q) k) (size_of n k) 0 ≡ pick (is_unmet form places k) (size_of n k) 0
      go true e = let t = ap repeats (eqb-true k i e) ∙ r in none (set places i q) t ∙ sym (none places t)
      go false e = other k e

  -- meeting another for the first time takes its bytes away
  unmet_once : (k : ℕ) → i < length places → repeats i ≡ false → is_of form i ≡ true → place places i ≡ 0 → 1 ≤ q
      → unmet form n (set places i q) k + pick (ltb i k) (size_of n i) 0 ≡ unmet form n places k
  unfolding unmet
  unmet_once zero b r o z m = omega (arith, is_skip (ltb i 0) (size_of n i) 0 (le-ltb i 0 (omega arith)))
  unmet_once (suc k) b r o z m = go (eqb k i) refl (unmet_once k b r o z m)
    where
      go : (t : Bool) → eqb k i ≡ t → unmet form n (set places i q) k + pick (ltb i k) (size_of n i) 0 ≡ unmet form n places k
          → unmet form n (set places i q) k + pick (is_unmet form (set places i q) k) (size_of n k) 0 + pick (ltb i (suc k)) (size_of n i) 0
          ≡ unmet form n places k + pick (is_unmet form places k) (size_of n k) 0
      go true e earlier =
          let k_is : k ≡ i = eqb-true k i e in
          let stands : place (set places i q) k ≡ q = ap (place (set places i q)) k_is ∙ get_or-set_same places i q 0 b in
          let after : pick (is_unmet form (set places i q) k) (size_of n k) 0 ≡ 0 =
          let met = ne_eqb (place (set places i q) k) 0 (λ (w : place (set places i q) k ≡ 0). omega (arith, w, stands, m)) in
          is_skip _ _ _ (ap (λ (t : Bool). is_of form k && not (repeats k) && t) met ∙ and_none _) in
          let before : pick (is_unmet form places k) (size_of n k) 0 ≡ size_of n k =
          is_hit _ _ _ ((λ j. is_of form (k_is j) && not (repeats (k_is j)) && eqb (place places (k_is j)) 0) ∙ (λ j. o j && not (r j) && eqb (z j) 0)) in
          let same : size_of n k ≡ size_of n i = ap (size_of n) k_is in
          omega (
            arith,
            after,
            before,
            same,
            earlier,
            is_hit (ltb i (suc k)) (size_of n i) 0 (lt-ltb i (suc k) (omega (arith, k_is))),
            is_skip (ltb i k) (size_of n i) 0 (le-ltb i k (omega (arith, k_is))),
          )
      go false e earlier = omega (arith, other k e, earlier, ap (λ (t : Bool). pick t (size_of n i) 0) (one_on (ltb i k) refl))
        where
          one_on : (t : Bool) → ltb i k ≡ t → ltb i (suc k) ≡ ltb i k
          one_on true t = lt-ltb i (suc k) (omega (arith, ltb-true i k t)) ∙ sym t
          one_on false t =
              let apart : k ≡ i → ⊥ = eqb-false k i e in
              le-ltb i (suc k) (omega (arith, ltb-false i k t, apart)) ∙ sym t

pub walk_bytes : (bytes : List ℕ) (form : Form) (n : ℕ) (ats places places' : List ℕ) → tags ≤ length places → walk_of bytes form ats places ≡ (Sound, places')
    → sized_by n bytes ats + unmet form n places' tags ≡ unmet form n places tags + many_by n bytes ats
unfolding walk_of sized_by many_by
walk_bytes bytes form n [] places places' l e = omega (arith, ap (λ (z : Tests × List ℕ). unmet form n z.1 tags) e)
walk_bytes bytes form n (at ∷ rest) places places' l e =
    let g = field_fault bytes form places at in
    let t = first_sound g places (walk_of bytes form rest next) places' e in
    let s = field_held bytes form places at t in
    let r = walk_bytes bytes form n rest next places' (rw length-set l) (sym (is_skip (is_err g) (g, places) _ t) ∙ e) in
    go s (repeats i) refl r
  where
    i : ℕ
    i = index_at bytes at

    q : ℕ
    q = first_place (place places i) (content_of bytes at)

    next : List ℕ
    next = noted places i (content_of bytes at)

    go : FieldSound bytes form places at → (t : Bool) → repeats i ≡ t → sized_by n bytes rest + unmet form n places' tags ≡ unmet form n next tags + many_by n bytes rest
        → size_of n i + sized_by n bytes rest + unmet form n places' tags ≡ unmet form n places tags + (pick (repeats i) (size_of n i) 0 + many_by n bytes rest)
    go s true k r = omega (arith, r, unmet_many form n places i q tags k, is_hit (repeats i) (size_of n i) 0 k)
    go s false k r =
        let z = s.fresh k in
        let b : i < tags = is_of_listed form i s.of_form in
        let inside = ltb-false (length bytes - at) (3 + length_at bytes at) s.whole in
        let content : content_of bytes at ≡ at + 3 = is_skip _ _ _ (le-ltb (length bytes - at) 3 (omega (arith, inside))) in
        let q_is : q ≡ content_of bytes at = is_hit _ _ _ (eq-eqb (place places i) 0 z) in
        omega (
          arith,
          r,
          unmet_once form n places i q tags (omega (arith, b, l)) k s.of_form z (omega (arith, q_is, content)),
          is_hit (ltb i tags) (size_of n i) 0 (lt-ltb i tags b),
          is_skip (repeats i) (size_of n i) 0 k,
        )
