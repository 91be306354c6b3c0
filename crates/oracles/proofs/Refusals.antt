-- Tests as an answer of their own, and what is made of it. Assumes nothing.
use Rattle.std.specs.Prelude.{◌≡◌, refl, ℕ, Result, Ok, Err, ⊤}
use Rattle.std.proofs.Common.{ap, arith}
use Rattle.numbers.specs.Refusal.{Tests, Sound, unless}
use Rattle.numbers.specs.declared.refusal.Refusal.{Refusal}

-- the first refusal of the tests f
abbrev pub first_of : Tests → Result ⊤ Refusal
first_of f = unless f (λ why place. Err why) (Ok tt)

pub err_by : {X : Type 0} (made : Refusal → X) (done : X) (f : Tests) {why : Refusal} → Err why ≡ first_of f → made why ≡ unless f (λ why place. made why) done
err_by made done Sound q = absurd (let z : ◌≡◌ {A = ℕ} 0 1 = cc in omega arith)
err_by made done (Err fault) {why} q = let p : why ≡ fault.why = cc in ap made p

pub ok_by : (f : Tests) → Ok tt ≡ first_of f → Sound ≡ f
ok_by Sound q = refl
ok_by (Err fault) q = absurd (let z : ◌≡◌ {A = ℕ} 0 1 = cc in omega arith)
