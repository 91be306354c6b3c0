-- The rows of a scan: what its tests say of them, which ones a cursor has before it, and where an advance leads. Assumes nothing.
use Rattle.std.specs.Prelude.{◌≡◌, Bool, true, ◌&&◌, ◌⊎◌, List, ℕ, suc, ◌≤◌, ◌<◌, ◌+◌, ◌-◌, ◌*◌, eqb, length, ℤ, pos, nat_abs, ◌-ℤ◌, Float}
use Rattle.std.proofs.Common.{sym, ap, ◌∙◌, inl, inr, eq-or-lt_of_le, mul-le-mul_right, le_trans, le_of_eq, arith, leb-true, eqb-true}
use Rattle.std.specs.Int.Signed.{le_z}
use Rattle.numbers.specs.Refusal.{◌⨾◌, ask, Sound, Tests}
use Rattle.numbers.specs.declared.refusal.Refusal.TheVariants.{Dimension, Length, Band}
use Rattle.numbers.specs.laws.Pick.{and_parts}
use Rattle.numbers.specs.laws.Refusal.{both_sound, ask_sound}
use Rattle.oracles.specs.Table.{is_rows}
use Rattle.oracles.specs.RoundRobin.{is_band, advanced}
use Rattle.oracles.specs.Scan.{first_fault, scan_band_tests}
use Rattle.oracles.specs.laws.RoundRobin.{canon, legal_of, adv_next, adv_wrap, band_is, Legal}
use Rattle.oracles.specs.declared.round_robin.RoundRobin.{RoundRobin}

-- ---- what the inner functions ask for

-- rows that a scan from c can read
pub record Ready (n : ℕ) (table x : List Float) (c : RoundRobin) : Type 0 where
  pub legal : Legal c
  pub high : legal.past * n ≤ length table

-- no fault by refusals 1 to 4: each test holds
pub all_hold : (d l b c : Bool) → first_fault d l b c ≡ Sound → (d ≡ true) × (l ≡ true) × (b ≡ true) × (c ≡ true)
all_hold d l b c e =
    let p = both_sound (ask d Dimension ⨾ ask l Length) _ e in
    let q = both_sound (ask d Dimension) _ p.0 in
    let r = both_sound (ask b Band) _ p.1 in
    (ask_sound _ _ _ q.0, ask_sound _ _ _ q.1, ask_sound _ _ _ r.0, ask_sound _ _ _ r.1)

-- the same fault from equal tests
pub fault_by : {f : Tests} {d l b c d' l' b' c' : Bool} → f ≡ first_fault d l b c → d ≡ d' → l ≡ l' → b ≡ b' → c ≡ c' → f ≡ first_fault d' l' b' c'
fault_by e hd hl hb hc = e ∙ (λ i. first_fault (hd i) (hl i) (hb i) (hc i))

-- rows that the tests allow can be read
pub ready_of : (n rows : ℕ) (table x : List Float) (c : RoundRobin) → scan_band_tests n rows table x c ≡ Sound → Ready n table x c
ready_of n rows table x c e =
    let h = all_hold _ _ _ _ e in
    let b = (and_parts (is_rows rows) (is_band c.lo c.hi && le_z c.hi (pos rows)) h.2).1 in
    let p = and_parts (is_band c.lo c.hi) (le_z c.hi (pos rows)) b in
    let L = legal_of c p.0 h.3 in
    let l : L.past ≤ rows = leb-true L.past rows (ap (λ (z : ℤ). le_z z (pos rows)) (sym L.hi_is) ∙ p.1) in
    let q : length table ≡ rows * n = eqb-true (length table) (rows * n) (and_parts (eqb (length table) (rows * n)) (eqb (length x) n) h.1).0 in
    record { legal = L; high = le_trans (mul-le-mul_right n l) (le_of_eq (sym q)) }

-- ---- how many rows a scan has, and which

-- one for each row of the band
pub band_count : (c : RoundRobin) (L : Legal c) → nat_abs (c.hi -ℤ c.lo) ≡ L.past - L.from
band_count c L = ap nat_abs (band_is c L)

-- row i is one of the next `left` rows from k on: before the band's end, or past it and so from the band's start on
abbrev pub Seen : ℕ → ℕ → ℕ → ℕ → ℕ → Type 0
Seen from past k left i = ((k ≤ i) × (i < k + left)) ⊎ ((i < k) × (i + (past - from) < k + left))

-- where an advance of the cursor whose next row is k leads: to row k, and where k is the band's end to its start;
-- a row that is still to be seen is this one, or is seen after it
pub record NextRow (from past k : ℕ) : Type 0 where
  pub row : ℕ
  pub low : from ≤ row
  pub high : row < past
  pub goes : advanced (canon from past k) ≡ canon from past (suc row)
  pub rest : (left i : ℕ) → from ≤ i → i < past → Seen from past k (suc left) i → (row ≡ i) ⊎ Seen from past (suc row) left i

pub next_row : (from past k : ℕ) → from ≤ k → k ≤ past → from < past → NextRow from past k
next_row from past k a b some = elim (eq-or-lt_of_le b) [
  | inl e ↦ record { row = from; low = omega arith; high = some; goes = rw e (adv_wrap from past); rest = λ left i u w h. from_start left i u w e h }
  | inr l ↦ record { row = k; low = a; high = l; goes = adv_next from past k (λ e. omega arith); rest = λ left i u w h. from_k left i h }
]
  where
    from_start : (left i : ℕ) → from ≤ i → i < past → k ≡ past → Seen from past k (suc left) i → (from ≡ i) ⊎ Seen from past (suc from) left i
    from_start left i u w e (inl h) = absurd (omega arith)
    from_start left i u w e (inr h) = elim (eq-or-lt_of_le u) [ inl q ↦ inl q | inr l ↦ inr (inl (l, omega arith)) ]

    from_k : (left i : ℕ) → Seen from past k (suc left) i → (k ≡ i) ⊎ Seen from past (suc k) left i
    from_k left i (inl h) = elim (eq-or-lt_of_le h.0) [ inl q ↦ inl q | inr l ↦ inr (inl (l, omega arith)) ]
    from_k left i (inr h) = inr (inr (omega arith))
