-- Whole numbers of two bytes, written and read again. Assumes nothing.
use Prim.Native.Nat.{ℕ, zero, suc, ◌+◌, ◌*◌, ◌/◌, ◌%◌, ◌≤◌, ◌<◌}
use Rattle.std.specs.Prelude.{◌≡◌, refl, true, List, [], ◌∷◌, ◌++◌, ◌&&◌, drop, ℤ, pos, negsuc, ◌+ℤ◌}
use Rattle.std.specs.Int.Signed.{lt_z, le_z}
use Rattle.std.proofs.Math.IntN.{+ℤ_one}
use Rattle.std.proofs.Common.{sym, ap, ◌∙◌, arith, true≢false, ltb-true, lt-ltb, le-ltb, leb-true, le-leb}
use Rattle.numbers.specs.Pick.{pick}
use Rattle.numbers.specs.Bits.{le_bytes, word_at}
use Rattle.numbers.specs.laws.Bits.{word_low}
use Rattle.numbers.specs.laws.Pick.{is_hit, is_skip, and_parts}
use Rattle.oracles.specs.RoundRobin.{is_band}
use Rattle.drivers.specs.Text.{joined}
use Rattle.drivers.specs.Fields.{short_of, short_bytes}
use Rattle.drivers.specs.Job.{part_of, signed}

-- ---- two bytes before others are the low bytes of one number

short_on : (k a b : ℕ) → a < 65536 → le_bytes 2 a ++ le_bytes k b ≡ le_bytes (suc (suc k)) (a + 65536 * b)
unfolding le_bytes
short_on k a b h =
    let e₀ : a % 256 ≡ (a + 65536 * b) % 256 = omega arith in
    let e₁ : a / 256 % 256 ≡ (a + 65536 * b) / 256 % 256 = omega arith in
    let e₂ : b ≡ (a + 65536 * b) / 256 / 256 = omega (arith, h) in
    λ i. e₀ i ∷ e₁ i ∷ le_bytes k (e₂ i)

module _ (bytes : List ℕ) (p : ℕ) (rest : List ℕ) where
  -- two of them, and three
  pub two_read : (a b : ℤ) → short_of a < 65536 → short_of b < 65536 → drop p bytes ≡ short_bytes (a ∷ b ∷ []) ++ rest
      → (part_of (word_at bytes p) 0 ≡ short_of a) × (part_of (word_at bytes p) 1 ≡ short_of b)
  unfolding joined le_bytes
  two_read a b h k e =
      let u = short_of a in
      let v = short_of b in
      let w : short_bytes (a ∷ b ∷ []) ≡ le_bytes 4 (u + 65536 * v) = short_on 2 u v h in
      let low = word_low bytes p 4 (u + 65536 * v) rest (omega arith) (omega (arith, h, k)) (e ∙ ap (λ (l : List ℕ). l ++ rest) w) in
      (omega (arith, low, h, k), omega (arith, low, h, k))

  pub three_read : (a b d : ℤ) → short_of a < 65536 → short_of b < 65536 → short_of d < 65536 → drop p bytes ≡ short_bytes (a ∷ b ∷ d ∷ []) ++ rest
      → (part_of (word_at bytes p) 0 ≡ short_of a) × (part_of (word_at bytes p) 1 ≡ short_of b) × (part_of (word_at bytes p) 2 ≡ short_of d)
  unfolding joined le_bytes
  three_read a b d h k m e =
      let u = short_of a in
      let v = short_of b in
      let t = short_of d in
      let w : short_bytes (a ∷ b ∷ d ∷ []) ≡ le_bytes 6 (u + 65536 * (v + 65536 * t)) =
      ap (λ (l : List ℕ). le_bytes 2 u ++ l) (short_on 2 v t k) ∙ short_on 4 u (v + 65536 * t) h in
      let low = word_low bytes p 6 (u + 65536 * (v + 65536 * t)) rest (omega arith) (omega (arith, h, k, m)) (e ∙ ap (λ (l : List ℕ). l ++ rest) w) in
      (omega (arith, low, h, k, m), omega (arith, low, h, k, m), omega (arith, low, h, k, m))

-- ---- a number that 16 bits hold, read as a signed one

pub record Short (z : ℤ) : Type 0 where
  pub small : short_of z < 65536
  pub again : signed (short_of z) ≡ z

short_plain : (n : ℕ) → short_of (pos n) ≡ n
short_plain n = is_skip _ _ _ (le-ltb n 0 (omega arith))

pub short_pos : (n : ℕ) → n < 32768 → Short (pos n)
unfolding signed
short_pos n h =
    let e : short_of (pos n) ≡ n = short_plain n in
    record { small = omega (arith, e, h); again = ap signed e ∙ is_hit _ _ _ (lt-ltb n 32768 h) }

pub short_before : Short (negsuc 0)
unfolding signed pick
short_before = record { small = omega arith; again = refl }

-- a count of rows
pub record Count (z : ℤ) : Type 0 where
  pub from : le_z (pos 0) z ≡ true
  pub to : le_z z (pos 1024) ≡ true

pub count_of : (n : ℕ) → n ≤ 1024 → Count (pos n)
count_of n h = record { from = le-leb 0 n (omega arith); to = le-leb n 1024 h }

-- where one band ends and the next begins
pub count_between : (lo z hi : ℤ) → is_band lo z ≡ true → is_band z hi ≡ true → Count z
count_between lo z hi a b =
    let low = and_parts _ (le_z hi (pos 1024)) b in
    record { from = (and_parts (le_z (pos 0) z) (le_z z hi) low.0).0; to = (and_parts _ (le_z z (pos 1024)) a).1 }

pub count_short : (z : ℤ) → Count z → (short_of z < 65536) × (pos (short_of z) ≡ z)
count_short (negsuc n) h = absurd (true≢false (sym h.from))
count_short (pos n) h = let e : short_of (pos n) ≡ n = short_plain n in (omega (arith, e, leb-true n 1024 h.to), ap pos e)

-- a cursor that stands in its band or just before it
pub short_cur : (z lo hi : ℤ) → Count lo → Count hi → (lt_z z hi && le_z lo (z +ℤ pos 1)) ≡ true → Short z
short_cur z lo hi l h e = go z lo hi l h (and_parts (lt_z z hi) (le_z lo (z +ℤ pos 1)) e)
  where
    go : (z lo hi : ℤ) → Count lo → Count hi → (lt_z z hi ≡ true) × (le_z lo (z +ℤ pos 1) ≡ true) → Short z
    go (pos n) lo (pos hi) l h k = short_pos n (omega (arith, ltb-true n hi k.0, leb-true hi 1024 h.to))
    go (pos n) lo (negsuc hi) l h k = absurd (true≢false (sym k.0))
    go (negsuc zero) lo hi l h k = short_before
    go (negsuc (suc m)) (pos lo) hi l h k = absurd (true≢false (sym k.1 ∙ ap (le_z (pos lo)) (+ℤ_one (negsuc (suc m)))))
    go (negsuc (suc m)) (negsuc lo) hi l h k = absurd (true≢false (sym l.from))
