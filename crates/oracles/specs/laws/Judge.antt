-- Laws of the judgement of a point: which test decides it, and that it is feasible exactly where nothing breaks. Assumes nothing.
use Rattle.std.specs.Prelude.{◌≡◌, refl, Bool, true, false, ℕ, ◌-◌}
use Rattle.std.proofs.Common.{sym, ap, true≢false, arith}
use Rattle.numbers.specs.laws.Pick.{some_false, none_some}
use Rattle.oracles.specs.Verdict.{feasible, pass, stop, middle, sign, refused, Question, pass_end, stop_start, pass_breaks, stop_breaks, middle_breaks, sign_breaks, pass_broken, stop_broken, middle_broken, first_broken, judge, Unbroken, is_feasible}

-- ---- the first of four

-- one of five, so an accepted call is not refused
first_answers : (a b c d : Bool) → first_broken a b c d ≡ refused → ⊥
unfolding first_broken
first_answers true b c d e = let z : ◌≡◌ {A = ℕ} 0 1 = cc in omega arith
first_answers false true c d e = let z : ◌≡◌ {A = ℕ} 0 1 = cc in omega arith
first_answers false false true d e = let z : ◌≡◌ {A = ℕ} 0 1 = cc in omega arith
first_answers false false false true e = let z : ◌≡◌ {A = ℕ} 0 1 = cc in omega arith
first_answers false false false false e = let z : ◌≡◌ {A = ℕ} 0 1 = cc in omega arith

-- feasible only where none is broken
first_none : (a b c d : Bool) → first_broken a b c d ≡ feasible → (a ≡ false) × (b ≡ false) × (c ≡ false) × (d ≡ false)
unfolding first_broken
first_none true b c d e = absurd (true≢false (sym (ap is_feasible e)))
first_none false true c d e = absurd (true≢false (sym (ap is_feasible e)))
first_none false false true d e = absurd (true≢false (sym (ap is_feasible e)))
first_none false false false true e = absurd (true≢false (sym (ap is_feasible e)))
first_none false false false false e = (refl, refl, refl, refl)

-- ---- the judgement of a point

module _ (q : Question) where
  -- the first test that holds decides
  pub judge_pass : pass_broken q ≡ true → judge q ≡ pass
  unfolding judge first_broken
  judge_pass e = rw e

  pub judge_stop : pass_broken q ≡ false → stop_broken q ≡ true → judge q ≡ stop
  unfolding judge first_broken
  judge_stop e₁ e₂ = rw (e₁, e₂)

  pub judge_middle : pass_broken q ≡ false → stop_broken q ≡ false → middle_broken q ≡ true → judge q ≡ middle
  unfolding judge first_broken
  judge_middle e₁ e₂ e₃ = rw (e₁, e₂, e₃)

  pub judge_sign : pass_broken q ≡ false → stop_broken q ≡ false → middle_broken q ≡ false → sign_breaks q ≡ true → judge q ≡ sign
  unfolding judge first_broken
  judge_sign e₁ e₂ e₃ e₄ = rw (e₁, e₂, e₃, e₄)

  pub judge_none : pass_broken q ≡ false → stop_broken q ≡ false → middle_broken q ≡ false → sign_breaks q ≡ false → judge q ≡ feasible
  unfolding judge first_broken
  judge_none e₁ e₂ e₃ e₄ = rw (e₁, e₂, e₃, e₄)

  pub judge_answers : judge q ≡ refused → ⊥
  unfolding judge
  judge_answers e = first_answers (pass_broken q) (stop_broken q) (middle_broken q) (sign_breaks q) e

  -- feasible exactly where nothing breaks
  pub judge_feasible : judge q ≡ feasible → Unbroken q
  unfolding judge
  judge_feasible e =
      let n = first_none (pass_broken q) (stop_broken q) (middle_broken q) (sign_breaks q) e in
      record {
        pass_rows = λ i h. some_false (pass_breaks q) 0 (pass_end q) n.0 i (omega arith) (omega arith);
        stop_rows = λ i l h. some_false (stop_breaks q) (stop_start q) (q.rows - stop_start q) n.1 i l (omega arith);
        middle_rows = λ i l h. some_false (middle_breaks q) (pass_end q) (stop_start q - pass_end q) n.2 i l (omega arith);
        sign_holds = n.3;
      }

  pub unbroken_feasible : Unbroken q → judge q ≡ feasible
  unbroken_feasible u =
      judge_none
      (none_some (pass_breaks q) 0 (pass_end q) (λ i l h. u.pass_rows i (omega arith)))
      (none_some (stop_breaks q) (stop_start q) (q.rows - stop_start q) (λ i l h. u.stop_rows i l (omega arith)))
      (none_some (middle_breaks q) (pass_end q) (stop_start q - pass_end q) (λ i l h. u.middle_rows i l (omega arith)))
      u.sign_holds
