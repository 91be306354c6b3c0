-- Laws of the cursor. Assumes nothing.
use Rattle.std.specs.Prelude.{◌≡◌, refl, true, false, ◌&&◌, ℕ, zero, suc, ◌+◌, ◌-◌, ◌≤◌, ℤ, pos, negsuc, ◌+ℤ◌, ◌-ℤ◌}
use Rattle.std.proofs.Common.{sym, ap, ◌∙◌, true≢false, arith, le-ltb, leb-true, ltb-true, le-leb, lt-ltb, eqb-true, eq-eqb, ne_eqb}
use Rattle.std.proofs.Math.IntN.{pred_ℤ, +ℤ_one, suc-pred}
use Rattle.std.specs.Int.Signed.{le_z, lt_z}
use Rattle.numbers.specs.Pick.{pick}
use Rattle.oracles.specs.RoundRobin.{is_band, is_at, eq_z, advanced}
use Rattle.oracles.specs.declared.round_robin.RoundRobin.{RoundRobin}
use Rattle.numbers.specs.laws.Pick.{and_parts}

-- a legal cursor, said in natural numbers: its band is from .. past − 1, and `next` is one more than `cur`
pub record Legal (c : RoundRobin) : Type 0 where
  pub from : ℕ
  pub past : ℕ
  pub next : ℕ
  pub lo_is : c.lo ≡ pos from
  pub hi_is : c.hi ≡ pos past
  pub cur_is : c.cur ≡ pred_ℤ (pos next)
  pub above : from ≤ next
  pub below : next ≤ past
  pub small : past ≤ 1024

-- equal numbers, and unequal ones
pub eq_z_yes : (a b : ℤ) → a ≡ b → eq_z a b ≡ true
eq_z_yes (pos a) b e = rw (← e) (eq-eqb a a refl)
eq_z_yes (negsuc a) b e = rw (← e) (eq-eqb a a refl)

pub eq_z_no : (a b : ℤ) → (a ≡ b → ⊥) → eq_z a b ≡ false
eq_z_no (pos a) (pos b) h = ne_eqb a b (λ e. h (ap pos e))
eq_z_no (pos a) (negsuc b) h = refl
eq_z_no (negsuc a) (pos b) h = refl
eq_z_no (negsuc a) (negsuc b) h = ne_eqb a b (λ e. h (ap negsuc e))

pub eq_z_true : (a b : ℤ) → eq_z a b ≡ true → a ≡ b
eq_z_true (pos a) (pos b) e = ap pos (eqb-true a b e)
eq_z_true (pos a) (negsuc b) e = absurd (true≢false (sym e))
eq_z_true (negsuc a) (pos b) e = absurd (true≢false (sym e))
eq_z_true (negsuc a) (negsuc b) e = ap negsuc (eqb-true a b e)

-- the tests of a cursor make it legal
pub legal_of : (c : RoundRobin) → is_band c.lo c.hi ≡ true → is_at c ≡ true → Legal c
legal_of c b a =
    let p = and_parts (le_z (pos 0) c.lo && le_z c.lo c.hi) (le_z c.hi (pos 1024)) b in
    let q = and_parts (le_z (pos 0) c.lo) (le_z c.lo c.hi) p.0 in
    let r = and_parts (lt_z c.cur c.hi) (le_z c.lo (c.cur +ℤ pos 1)) a in
    go c.lo c.hi c.cur refl refl refl q.0 q.1 p.1 r.0 r.1
  where
    go : (lo hi cur : ℤ) → c.lo ≡ lo → c.hi ≡ hi → c.cur ≡ cur → le_z (pos 0) lo ≡ true → le_z lo hi ≡ true → le_z hi (pos 1024) ≡ true
        → lt_z cur hi ≡ true → le_z lo (cur +ℤ pos 1) ≡ true → Legal c
    go (negsuc f) hi cur el eh ec h₁ h₂ h₃ h₄ h₅ = absurd (true≢false (sym h₁))
    go (pos f) (negsuc p) cur el eh ec h₁ h₂ h₃ h₄ h₅ = absurd (true≢false (sym h₂))
    go (pos f) (pos p) (negsuc (suc k)) el eh ec h₁ h₂ h₃ h₄ h₅ = absurd (true≢false (sym h₅ ∙ ap (le_z (pos f)) (+ℤ_one (negsuc (suc k)))))
    go (pos f) (pos p) (negsuc zero) el eh ec h₁ h₂ h₃ h₄ h₅ =
        record {
          from = f;
          past = p;
          next = 0;
          lo_is = el;
          hi_is = eh;
          cur_is = ec;
          above = leb-true f 0 h₅;
          below = omega arith;
          small = leb-true p 1024 h₃;
        }
    go (pos f) (pos p) (pos k) el eh ec h₁ h₂ h₃ h₄ h₅ =
        record {
          from = f;
          past = p;
          next = suc k;
          lo_is = el;
          hi_is = eh;
          cur_is = ec;
          above = omega (arith, leb-true f (k + 1) h₅);
          below = ltb-true k p h₄;
          small = leb-true p 1024 h₃;
        }

-- the cursor of the band from .. past − 1 whose next row is k
abbrev pub canon : ℕ → ℕ → ℕ → RoundRobin
canon from past k = record { cur = pred_ℤ (pos k); lo = pos from; hi = pos past }

pub legal_canon : (c : RoundRobin) (L : Legal c) → c ≡ canon L.from L.past L.next
legal_canon c L = λ i. record { cur = L.cur_is i; lo = L.lo_is i; hi = L.hi_is i }

one_on : (k : ℕ) → pred_ℤ (pos k) +ℤ pos 1 ≡ pos k
one_on k = +ℤ_one (pred_ℤ (pos k)) ∙ suc-pred (pos k)

-- where it goes: to row k, and from the band's end to its start
pub adv_next : (from past k : ℕ) → (k ≡ past → ⊥) → advanced (canon from past k) ≡ canon from past (suc k)
unfolding advanced pick
adv_next from past k h = rw (one_on k, ne_eqb k past h)

pub adv_wrap : (from past : ℕ) → advanced (canon from past past) ≡ canon from past (suc from)
unfolding advanced pick
adv_wrap from past = rw (one_on past, eq-eqb past past refl)

-- how many rows a legal cursor's band has
pub band_is : (c : RoundRobin) (L : Legal c) → c.hi -ℤ c.lo ≡ pos (L.past - L.from)
band_is c L = (λ i. L.hi_is i -ℤ L.lo_is i) ∙ go L.past L.from (omega (arith, L.above, L.below))
  where
    go : (p f : ℕ) → f ≤ p → pos p -ℤ pos f ≡ pos (p - f)
    go p zero h = ap pos (let e : p + 0 ≡ p - 0 = omega arith in e)
    go p (suc f) h = rw (le-ltb p (suc f) h)

-- a legal cursor passes its tests
pub legal_band : (c : RoundRobin) → Legal c → is_band c.lo c.hi ≡ true
legal_band c L = rw (L.lo_is, L.hi_is, le-leb 0 L.from (omega arith), le-leb L.from L.past (omega arith), le-leb L.past 1024 L.small)

pub legal_at : (c : RoundRobin) → Legal c → is_at c ≡ true
legal_at c L = rw (legal_canon c L, one_on L.next, le-leb L.from L.next L.above, before L.next L.below)
  where
    before : (k : ℕ) → k ≤ L.past → lt_z (pred_ℤ (pos k)) (pos L.past) ≡ true
    before zero h = refl
    before (suc k) h = lt-ltb k L.past h
