-- Laws of faults: a chain of tests, of which the first fault counts. Assumes nothing.
use Rattle.std.specs.Prelude.{◌≡◌, refl, Bool, true, false, not, ℕ, is_err, Ok, Err, Result, ⊤, IsErrAnd}
use Rattle.std.proofs.Common.{sym, ap, ◌∙◌, true≢false}
use Rattle.std.proofs.lemmas.Bool.{not-true}
use Rattle.std.proofs.lemmas.Result.{err_from_is_err_and}
use Rattle.numbers.specs.declared.refusal.Refusal.{Refusal}
use Rattle.numbers.specs.laws.Pick.{hit, skip, is_hit, is_skip, by_test}
use Rattle.numbers.specs.Refusal.{refusal_number, ◌⨾◌, unless, fault_number, ask_at, asked, At, Sound, Tests}

-- ---- a chain of faults: a fault ends it, and what has none is passed

pub stops : (f g : Tests) → is_err f ≡ true → f ≡ (f ⨾ g)
stops f g t = hit (is_err f) f g f t refl

pub passes : (f g r : Tests) → is_err f ≡ false → r ≡ g → r ≡ (f ⨾ g)
passes f g r t d = skip (is_err f) f g r t d

pub no_fault : (f : Tests) → is_err f ≡ false → f ≡ Sound
no_fault Sound h = refl
no_fault (Err fault) h = absurd (true≢false h)

-- a chain without a fault has none in any part
pub both_sound : (f g : Tests) → (f ⨾ g) ≡ Sound → (f ≡ Sound) × (g ≡ Sound)
both_sound Sound g e = (refl, sym (is_skip _ _ _ refl) ∙ e)
both_sound (Err fault) g e = absurd (true≢false (ap is_err (sym (is_hit true (Err fault) g refl) ∙ e)))

-- ---- a chain of tests, a test at a time: what it finds

-- a test that fails, and one that holds
pub failed : {t : Bool} {why : Refusal} {place : ℕ} → t ≡ false → At why place ≡ ask_at place t why
failed h = skip _ _ _ _ h refl

pub held : {t : Bool} (why : Refusal) (place : ℕ) → t ≡ true → Sound ≡ ask_at place t why
held why place h = hit _ _ _ _ h refl

-- a fault of the first part is the chain's; without one it is what the rest finds
pub at_first : {f : Tests} (g : Tests) {why : Refusal} {place : ℕ} → At why place ≡ f → At why place ≡ (f ⨾ g)
at_first {f} g e = e ∙ stops f g (ap is_err (sym e))

pub at_next : {f g r : Tests} → Sound ≡ f → r ≡ g → r ≡ (f ⨾ g)
at_next {f} {g} {r} e d = passes f g r (ap is_err (sym e)) d

-- what holds of each test's fault, and of none, holds of what the chain finds
pub of_test {ℓ} : (P : Tests → Type ℓ) (t : Bool) (why : Refusal) (place : ℕ) → P Sound → P (At why place) → P (ask_at place t why)
of_test P t why place h k = by_test P t _ _ (λ e. h) (λ e. k)

pub of_chain {ℓ} : (P : Tests → Type ℓ) (f g : Tests) → P f → P g → P (f ⨾ g)
of_chain P f g h k = by_test P (is_err f) f g (λ e. h) (λ e. k)

-- a test that no fault comes from holds
pub ask_sound : (t : Bool) (why : Refusal) (place : ℕ) → ask_at place t why ≡ Sound → t ≡ true
ask_sound true why place e = refl
ask_sound false why place e = absurd (true≢false (ap is_err (sym (is_skip false Sound (At why place) refl) ∙ e)))

-- no fault is Sound
pub sound_is : {f : Tests} → not (is_err f) ≡ true → f ≡ Sound
sound_is {f} h = no_fault f (not-true (is_err f) h)

-- ---- what a call answers by its chain: by the first fault's number, or its work

module _ {ℓ} {X : Type ℓ} (refused : Refusal → ℕ → X) (done : X) where
  pub refuses : (f : Tests) {why : Refusal} {place : ℕ} {r : X} → At why place ≡ f → r ≡ refused why place → r ≡ unless f refused done
  refuses f e d = d ∙ ap (λ (g : Tests). unless g refused done) e

  pub accepts : (f : Tests) {r : X} → Sound ≡ f → r ≡ done → r ≡ unless f refused done
  accepts f e d = d ∙ ap (λ (g : Tests). unless g refused done) e

-- what holds of a refusal by the chain's fault, and of the work where there is none, holds of the answer
pub by_tests {ℓ ℓ'} : {X : Type ℓ} (P : X → Type ℓ') (f : Tests) (refused : Refusal → ℕ → X) (done : X)
    → ((why : Refusal) (place : ℕ) → f ≡ At why place → P (refused why place)) → (f ≡ Sound → P done) → P (unless f refused done)
by_tests P Sound refused done h k = k refl
by_tests P (Err fault) refused done h k = h fault.why fault.place refl

-- what a function makes of an answer
pub unless_map {ℓ ℓ'} : {X : Type ℓ} {Y : Type ℓ'} (made : X → Y) (f : Tests) (refused : Refusal → ℕ → X) (done : X)
    → made (unless f refused done) ≡ unless f (λ why place. made (refused why place)) (made done)
unless_map made Sound refused done = refl
unless_map made (Err fault) refused done = refl

-- So a call's number, where it is 0 for all that its work answers, is that of its tests: refused exactly where one fails, by the first that does.
pub number_is {ℓ} : {X : Type ℓ} (number : X → ℕ) (f : Tests) (refused : Refusal → ℕ → X) (done : X) → ((why : Refusal) (place : ℕ) → number (refused why place) ≡ refusal_number why)
    → (f ≡ Sound → number done ≡ 0) → number (unless f refused done) ≡ fault_number f
number_is number Sound refused done h k = k refl
number_is number (Err fault) refused done h k = h fault.why fault.place

-- ---- a test with no record: what its answer says of it

pub asked_err : (t : Bool) (why : Refusal) {r : Result ⊤ Refusal} {e : Refusal} → r ≡ asked t why → r ≡ Err e → (t ≡ false) × (e ≡ why)
asked_err true why a b = let z : Ok tt ≡ Err _ = sym (a ∙ is_hit true (Ok tt) (Err why) refl) ∙ b in absurd (cc)
asked_err false why a b = (refl, let z : Err why ≡ Err _ = sym (a ∙ is_skip false (Ok tt) (Err why) refl) ∙ b in cc)

pub asked_ok : (t : Bool) (why : Refusal) {r : Result ⊤ Refusal} {u : ⊤} → r ≡ asked t why → r ≡ Ok u → t ≡ true
asked_ok true why a b = refl
asked_ok false why a b = let z : Err why ≡ Ok _ = sym (a ∙ is_skip false (Ok tt) (Err why) refl) ∙ b in absurd (cc)

-- so of the chain's test
pub asked_fault : (t : Bool) (why : Refusal) {r : Result ⊤ Refusal} {e : Refusal} → r ≡ asked t why → r ≡ Err e → At e 0 ≡ ask_at 0 t why
asked_fault t why a b = let p = asked_err t why a b in rw p.1 (failed p.0)

pub asked_sound : (t : Bool) (why : Refusal) {r : Result ⊤ Refusal} {u : ⊤} → r ≡ asked t why → r ≡ Ok u → Sound ≡ ask_at 0 t why
asked_sound t why a b = held _ _ (asked_ok t why a b)

-- a chain's answer by its last test, where what that finds is what the chain finds
pub asked_last : (t : Bool) (why : Refusal) (f : Tests) {r : Result ⊤ Refusal} → r ≡ asked t why → ((g : Tests) → g ≡ ask_at 0 t why → g ≡ f) → r ≡ unless f (λ w place. Err w) (Ok tt)
asked_last true why f a h = accepts _ _ f (h Sound (held why 0 refl)) (a ∙ is_hit true (Ok tt) (Err why) refl)
asked_last false why f a h = refuses _ _ f (h (At why 0) (failed refl)) (a ∙ is_skip false (Ok tt) (Err why) refl)

-- where a call goes back by a test's `?`: what it answers, and what else stands beside that, is the chain's refusal
pub exits {ℓ} : {X : Type 0} {Y : Type ℓ} (made : Result X Refusal → Y) (done : Y) (f : Tests) {r : Result X Refusal} {e : Refusal}
    → IsErrAnd r (λ y. y ≡ e) → At e 0 ≡ f → made r ≡ unless f (λ why place. made (Err why)) done
exits made done f {r} q a = let p = err_from_is_err_and r q in refuses (λ why place. made (Err why)) done f a (ap made (p.1 ∙ ap Err p.2))

-- where a test goes back by its `?`: what it answers is what was found
pub exit_same : {X E : Type 0} {r f : Result X E} {e : E} → IsErrAnd r (λ y. y ≡ e) → f ≡ Err e → r ≡ f
exit_same {r = r} q a = let p = err_from_is_err_and r q in p.1 ∙ ap Err p.2 ∙ sym a

-- a chain's answer with no place: which refusal, or that there is none
pub unless_err : (f : Tests) {r : Result ⊤ Refusal} {why : Refusal} → r ≡ unless f (λ w place. Err w) (Ok tt) → r ≡ Err why → (place : ℕ) × (f ≡ At why place)
unless_err Sound a b = let z : Ok tt ≡ Err _ = sym a ∙ b in absurd (cc)
unless_err (Err fault) a b = (fault.place, let z : Err fault.why ≡ Err _ = sym a ∙ b in let w : fault.why ≡ _ = cc in ap (λ (v : Refusal). At v fault.place) w)

pub unless_ok : (f : Tests) {r : Result ⊤ Refusal} {u : ⊤} → r ≡ unless f (λ w place. Err w) (Ok tt) → r ≡ Ok u → f ≡ Sound
unless_ok Sound a b = refl
unless_ok (Err fault) a b = let z : Err fault.why ≡ Ok _ = sym a ∙ b in absurd (cc)

-- where a call goes back by a `?`: the refusal that it answers
pub gone : {X E : Type 0} {r : Result X E} {e e' : E} → IsErrAnd r (λ y. y ≡ e) → e ≡ e' → r ≡ Err e'
gone {r = r} q a = let p = err_from_is_err_and r q in p.1 ∙ ap Err (p.2 ∙ a)
