-- Signed numbers of 32 bits: which sums fit, and what is read back from the bits. Assumes nothing.
use mathlib.Core.Path.{◌≡◌, sym, ap, ◌∙◌, subst}
use mathlib.Core.Bool.{true, true≢false}
use Prim.Native.Nat.{ℕ, zero, suc, ◌≤◌}
use native.Mathlib.Omega.{arith}
use lib.IntN.{ℤ, pos, negsuc, pred_ℤ, suc_ℤ, ◌+ℤ◌, ◌-ℤ◌, +ℤ_one, -ℤ_one, suc-pred}
use lib.Signed.{le_z}
use mir.Syntax.{w32}
use mir.Val.{SFits, to_z, of_z}
use mir.Facts.{to_z-of_z}
use Rattle.numbers.specs.Pick.{pick}
use Rattle.oracles.specs.RoundRobin.{advanced}
use Rattle.oracles.specs.laws.RoundRobin.{eq_z_yes, eq_z_no, Legal}
use Rattle.oracles.specs.declared.round_robin.RoundRobin.{RoundRobin}

-- what the machine reads back
abbrev pub read : ℤ → ℤ
read z = to_z w32 (of_z w32 z)

-- a number from zero on has a predecessor that fits
pub pred_fits : (a : ℤ) → le_z (pos 0) a ≡ true → SFits w32 a → SFits w32 (a -ℤ pos 1)
pred_fits a l f = subst (SFits w32) (sym (-ℤ_one a)) (go a l f)
  where
    go : (a : ℤ) → le_z (pos 0) a ≡ true → SFits w32 a → SFits w32 (pred_ℤ a)
    go (pos zero) l f = record { sfits = omega arith }
    go (pos (suc m)) l f = record { sfits = omega (arith, f.sfits) }
    go (negsuc m) l f = absurd (true≢false (sym l))

-- two numbers that have the same bits are equal
pub same_bits : {a b : ℤ} → SFits w32 a → SFits w32 b → of_z w32 a ≡ of_z w32 b → a ≡ b
same_bits fa fb e = sym (to_z-of_z fa) ∙ ap (to_z w32) e ∙ to_z-of_z fb

pub pos_fits : (n : ℕ) → n ≤ 1024 → SFits w32 (pos n)
pos_fits n h = record { sfits = omega arith }

pub before_fits : (n : ℕ) → n ≤ 1024 → SFits w32 (pred_ℤ (pos n))
before_fits zero h = record { sfits = omega arith }
before_fits (suc n) h = record { sfits = omega arith }

-- ---- a legal cursor

module _ (c : RoundRobin) (L : Legal c) where
  pub lo_fits : SFits w32 c.lo
  lo_fits = subst (SFits w32) (sym L.lo_is) (pos_fits L.from (omega (arith, L.above, L.below, L.small)))

  pub hi_fits : SFits w32 c.hi
  hi_fits = subst (SFits w32) (sym L.hi_is) (pos_fits L.past L.small)

  pub cur_fits : SFits w32 c.cur
  cur_fits = subst (SFits w32) (sym L.cur_is) (before_fits L.next (omega (arith, L.below, L.small)))

  pub next_is : c.cur +ℤ pos 1 ≡ pos L.next
  next_is = +ℤ_one c.cur ∙ ap suc_ℤ L.cur_is ∙ suc-pred (pos L.next)

  pub next_fits : SFits w32 (c.cur +ℤ pos 1)
  next_fits = subst (SFits w32) (sym next_is) (pos_fits L.next (omega (arith, L.below, L.small)))

  pub wraps : of_z w32 (read c.cur +ℤ pos 1) ≡ of_z w32 c.hi → record { cur = read c.lo; lo = read c.lo; hi = read c.hi } ≡ advanced c
  unfolding advanced pick
  wraps e =
      let t : c.cur +ℤ pos 1 ≡ c.hi = same_bits next_fits hi_fits (rw (to_z-of_z cur_fits) at e) in
      rw (to_z-of_z lo_fits, to_z-of_z hi_fits, eq_z_yes _ _ t)

  pub goes_on : (of_z w32 (read c.cur +ℤ pos 1) ≡ of_z w32 c.hi → ⊥) → record { cur = read (read c.cur +ℤ pos 1); lo = read c.lo; hi = read c.hi } ≡ advanced c
  unfolding advanced pick
  goes_on n =
      let t : c.cur +ℤ pos 1 ≡ c.hi → ⊥ = λ e. n (rw (to_z-of_z cur_fits) (ap (of_z w32) e)) in
      rw (to_z-of_z cur_fits, to_z-of_z next_fits, to_z-of_z lo_fits, to_z-of_z hi_fits, eq_z_no _ _ t)
