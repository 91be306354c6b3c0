-- What a reader finds in a record that was written: the law that answers and jobs are instances of. Assumes nothing.
use Prim.Native.Nat.{ℕ, zero, suc, ◌+◌, ◌≤◌, ◌<◌}
use Rattle.std.specs.Prelude.{◌≡◌, Bool, false, drop, take, is_err, Ok, Err, Result}
use Rattle.std.proofs.Math.Path.{refl, ap}
use Rattle.std.proofs.Common.{sym, subst, ◌∙◌, arith, eq-eqb, ne_eqb, eqb-true, length-append}
use Rattle.std.proofs.Math.Bool.{true}
use Rattle.std.proofs.lemmas.Bool.{eqb-false}
use Rattle.std.proofs.Math.Dec.{eqb}
use Rattle.std.proofs.Math.ListN.{length, length-set, get_or-replicate}
use Rattle.std.proofs.lemmas.List.{get_or-set_same, get_or-set_other}
use mathlib.Core.List.{List, [], ◌∷◌, ◌++◌, append_assoc}
use Rattle.numbers.specs.Pick.{pick}
use Rattle.numbers.specs.Over.{over}
use Rattle.numbers.specs.laws.Over.{front_over}
use Rattle.numbers.specs.Refusal.{unless, Sound, Tests}
use Rattle.numbers.specs.laws.Refusal.{by_tests}
use Rattle.numbers.specs.declared.refusal.Refusal.{Refusal}
use Rattle.numbers.specs.laws.Pick.{is_hit, is_skip}
use Rattle.drivers.specs.declared.rules.Form.{Form}
use Rattle.drivers.specs.Text.{joined}
use Rattle.drivers.specs.Fields.{Field, field_bytes, record_bytes}
use Rattle.drivers.specs.Record.{no_places, start_of, place, first_place, noted, fields_of, missing_fault, record_fault, lengths_fault}
use Rattle.drivers.specs.Rules.{index_of, tags}
use Rattle.drivers.specs.laws.OneField.{length_field, Writable, Stands, stands}
use Rattle.drivers.specs.laws.Fields.{Each, AllOf, past, tag_fault, walk_tags, first_sound, Sized, sizes_sound, record_written, lengths_written, each_mid, field_written}

-- ---- where the content of the first field of a tag begins, of fields from `at` on; 0 where there is none

unfoldable pub first_of : ℕ → ℕ → List Field → ℕ
first_of i at [] = 0
first_of i at (f ∷ fs) = pick (eqb (index_of f.0) i) (at + 3) (first_of i (past at f) fs)

-- none of them has the tag
abbrev pub Without : ℕ → List Field → Type 0
Without i fs = Each (λ f. eqb (index_of f.0) i ≡ false) fs

first_found : (i at : ℕ) (pre : List Field) (f : Field) (post : List Field) → Without i pre → index_of f.0 ≡ i → first_of i at (pre ++ f ∷ post) ≡ at + length (record_bytes pre) + 3
unfolding first_of Each joined
first_found i at [] f post h e = is_hit _ _ _ (eq-eqb (index_of f.0) i e) ∙ omega arith
first_found i at (g ∷ pre) f post h e =
    is_skip _ _ _ h.0 ∙ first_found i (past at g) pre f post h.1 e ∙ omega (arith, length-append (field_bytes g) (record_bytes pre), length_field g)

-- ---- the walk notes it

-- a place that was noted stays
first_stays : (p q : ℕ) → 1 ≤ p → first_place p q ≡ p
first_stays p q h = is_skip _ _ _ (ne_eqb p 0 (λ (e : p ≡ 0). omega (arith, e, h)))

first_zero : (p : ℕ) → first_place p 0 ≡ p
first_zero p = go (eqb p 0) refl
  where
    go : (t : Bool) → eqb p 0 ≡ t → first_place p 0 ≡ p
    go true e = is_hit _ _ _ e ∙ sym (eqb-true p 0 e)
    go false e = is_skip _ _ _ e

first_some : (p q : ℕ) → 1 ≤ q → 1 ≤ first_place p q
first_some zero q h = subst (λ (k : ℕ). 1 ≤ k) (sym (is_hit (eqb 0 0) q 0 refl)) h
first_some (suc p) q h = subst (λ (k : ℕ). 1 ≤ k) (sym (is_skip (eqb (suc p) 0) q (suc p) (ne_eqb (suc p) 0 (λ (e : suc p ≡ 0). omega (arith, e))))) (omega arith)

place_first : (form : Form) (fs : List Field) (at : ℕ) (places places' : List ℕ) (i : ℕ) → i < length places → walk_tags form at fs places ≡ (Sound, places')
    → place places' i ≡ first_place (place places i) (first_of i at fs)
unfolding walk_tags first_of
place_first form [] at places places' i b e = sym (ap (λ (z : Tests × List ℕ). place z.1 i) e) ∙ sym (first_zero (place places i))
place_first form (f ∷ fs) at places places' i b e =
    let j = index_of f.0 in
    let p = noted places j (at + 3) in
    let g = tag_fault form places at j in
    let t = first_sound g places (walk_tags form (past at f) fs p) places' e in
    let rest = place_first form fs (past at f) p places' i (rw length-set b) (sym (is_skip (is_err g) (g, places) _ t) ∙ e) in
    rest ∙ go (eqb j i) refl
  where
    go : (t : Bool) → eqb (index_of f.0) i ≡ t
        → first_place (place (noted places (index_of f.0) (at + 3)) i) (first_of i (past at f) fs) ≡ first_place (place places i) (pick (eqb (index_of f.0) i) (at + 3) (first_of i (past at f) fs))
    go true k =
        let q = at + 3 in
        let own : place (noted places (index_of f.0) q) i ≡ first_place (place places i) q =
        ap (λ (j : ℕ). place (noted places j q) i) (eqb-true (index_of f.0) i k) ∙ get_or-set_same places i (first_place (place places i) q) 0 b in
        ap (λ (z : ℕ). first_place z (first_of i (past at f) fs)) own ∙ first_stays (first_place (place places i) q) _ (first_some (place places i) q (omega arith))
        ∙ ap (first_place (place places i)) (sym (is_hit _ _ _ k))
    go false k =
        let j = index_of f.0 in
        ap (λ (z : ℕ). first_place z (first_of i (past at f) fs)) (get_or-set_other places j i (first_place (place places j) (at + 3)) 0 (λ (e : i ≡ j). eqb-false j i k (sym e)))
        ∙ ap (first_place (place places i)) (sym (is_skip _ _ _ k))

-- ---- fields that the tests of a reader of a form take

pub record Taken (form : Form) (n : ℕ) (fs : List Field) : Type 0 where
  pub writable : Each Writable fs
  pub sized : Each (Sized n) fs
  pub walked : (walk_tags form 0 fs no_places).0 ≡ Sound
  pub none_missing : missing_fault (length (record_bytes fs)) form (walk_tags form 0 fs no_places).1 ≡ Sound

module _ (form : Form) (n : ℕ) (fs : List Field) (t : Taken form n fs) where
  abbrev places : List ℕ
  places = (walk_tags form 0 fs no_places).1

  abbrev bytes : List ℕ
  bytes = record_bytes fs

  pub walk_taken : record_fault bytes form no_places ≡ (Sound, places)
  walk_taken = record_written fs t.writable form no_places places (λ i. (t.walked i, places)) ∙ ap (λ (f : Tests). (f, places)) t.none_missing

  pub lengths_taken : lengths_fault n bytes (fields_of bytes) ≡ Sound
  lengths_taken = lengths_written fs t.writable n ∙ sizes_sound n fs 0 t.sized

-- ---- and at the places that its walk notes stand the contents of the first field of each tag

-- the first field of a tag: where it begins, and what is read of it there
pub record There (bytes places : List ℕ) (i : ℕ) (f : Field) : Type 0 where
  pub at : ℕ
  pub rest : List ℕ
  pub place_is : place places i ≡ at + 3
  pub stands : Stands bytes at f rest

module _ {bytes places : List ℕ} {i : ℕ} {f : Field} (t : There bytes places i f) where
  pub is_there : eqb (place places i) 0 ≡ false
  is_there = ne_eqb (place places i) 0 (λ (z : place places i ≡ 0). omega (arith, z, t.place_is))

  pub start_is : start_of (place places i) ≡ t.at
  start_is = omega (arith, t.place_is)

  pub content_there : drop (place places i) bytes ≡ f.1 ++ t.rest
  content_there = ap (λ (p : ℕ). drop p bytes) t.place_is ∙ t.stands.content_is

module _ (form : Form) (fs : List Field) (writable : Each Writable fs) (w : (walk_tags form 0 fs no_places).0 ≡ Sound) (i : ℕ) (b : i < tags) where
  abbrev noted_places : List ℕ
  noted_places = (walk_tags form 0 fs no_places).1

  noted_first : place noted_places i ≡ first_of i 0 fs
  noted_first = place_first form fs 0 no_places _ i b (λ k. (w k, noted_places)) ∙ is_hit _ _ _ (eq-eqb (place no_places i) 0 (get_or-replicate tags i 0 0 b))

  pub there : (pre : List Field) (f : Field) (post : List Field) → fs ≡ pre ++ f ∷ post → Without i pre → index_of f.0 ≡ i → There (record_bytes fs) noted_places i f
  there pre f post s h e =
      let at = length (record_bytes pre) in
      let own = each_mid Writable pre f post (subst (Each Writable) s writable) in
      record {
        at = at;
        rest = record_bytes post;
        place_is = noted_first ∙ ap (first_of i 0) s ∙ first_found i 0 pre f post h e ∙ omega arith;
        stands = stands (record_bytes fs) at f (record_bytes post) own (ap (λ (l : List Field). drop at (record_bytes l)) s ∙ field_written pre f post);
      }

  -- where there are fields of one tag, it was met
  pub all_met : (pre gs post : List Field) → fs ≡ pre ++ gs ++ post → Without i pre → AllOf i gs → 1 ≤ length gs → eqb (place noted_places i) 0 ≡ false
  unfolding Each
  all_met pre [] post s h k l = absurd (omega (arith, l))
  all_met pre (g ∷ gs) post s h k l = is_there (there pre g (gs ++ post) (s ∙ append_assoc pre (g ∷ gs) post) h k.0)

-- ---- what a writer has written, where it answers how much

module _ (tests : Tests) (bytes out out' : List ℕ) (k : ℕ) where
  -- nothing was at fault, and the record stands at the front
  pub record Wrote : Type 0 where
    pub sound : tests ≡ Sound
    pub count_is : k ≡ length bytes
    pub front_is : take k out' ≡ bytes

  pub wrote : ◌≡◌ {A = Result ℕ Refusal × List ℕ} (unless tests (λ why place. (Err why, out)) (Ok (length bytes), over out 0 bytes)) (Ok k, out') → Wrote
  wrote = by_tests P tests _ _ (λ why place f e. apart why e) (λ f e.
      let r : Ok (length bytes) ≡ Ok k = ap (λ z. z.0) e in
      let k_is : length bytes ≡ k = cc in
      let out_is : over out 0 bytes ≡ out' = ap (λ z. z.1) e in
      record { sound = f; count_is = sym k_is; front_is = rw (← k_is, ← out_is) (front_over out bytes) })
    where
      P : Result ℕ Refusal × List ℕ → Type 0
      P r = r ≡ (Ok k, out') → Wrote

      apart : (why : Refusal) → ◌≡◌ {A = Result ℕ Refusal × List ℕ} (Err why, out) (Ok k, out') → Wrote
      apart why e =
          let r : Err why ≡ Ok k = ap (λ z. z.0) e in
          absurd (let z : ◌≡◌ {A = ℕ} 0 1 = cc in omega arith)
