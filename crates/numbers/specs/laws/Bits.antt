-- Laws of Bits, for the proofs here and in the crates above: reading what was put gives the word. Assumes nothing.
use Rattle.std.specs.Prelude.{ℕ, zero, suc, ◌+◌, ◌-◌, ◌*◌, ◌/◌, ◌%◌, ◌^◌, ◌≤◌, ◌<◌, ◌≡◌, refl, List, [], ◌∷◌, ◌++◌, leb, length, take, drop}
use Rattle.std.proofs.Common.{sym, ap, ◌∙◌, subst, append-nil, mod-eq_of_lt, arith, le-leb, leb-true, drop_of_length-le, take_at}
use Rattle.std.proofs.Math.Nat.{pow-succ', mul-add-mod_self_left}
use Rattle.std.proofs.lemmas.Bool.{lt-leb}
use Rattle.std.proofs.Math.Seq.{take-append-add}
use Rattle.numbers.specs.Bits.{le_number, word_at, le_bytes, put_bytes, put_word}
use Rattle.numbers.specs.Over.{over}
use Rattle.numbers.specs.laws.Over.{length_over, read_over}
use Rattle.numbers.specs.laws.Pick.{hit, skip, by_test}

pub length_bytes : (k w : ℕ) → length (le_bytes k w) ≡ k
unfolding le_bytes
length_bytes zero w = refl
length_bytes (suc k) w = ap suc (length_bytes k (w / 256))

-- the number of the bytes of a number that k bytes hold, with others behind them, and alone
number_on : (k w : ℕ) (rest : List ℕ) → w < 256 ^ k → le_number (le_bytes k w ++ rest) ≡ 256 ^ k * le_number rest + w
unfolding le_number le_bytes
number_on zero w rest h = omega arith
number_on (suc k) w rest h =
    let up : w < 256 * 256 ^ k = subst (λ (n : ℕ). w < n) (pow-succ' 256 k) h in
    rw (number_on k (w / 256) rest (below (256 ^ k) w up), pow-succ' 256 k) (more (256 ^ k) w (le_number rest))
  where
    below : (p w : ℕ) → w < 256 * p → w / 256 < p
    below p w h = omega arith

    more : (p w m : ℕ) → w % 256 + 256 * (p * m + w / 256) ≡ 256 * p * m + w
    more p w m = omega arith

pub bytes_again : (k w : ℕ) → w < 256 ^ k → le_number (le_bytes k w) ≡ w
unfolding le_number
bytes_again k w h = ap le_number (sym (append-nil (le_bytes k w))) ∙ number_on k w [] h ∙ omega arith

-- the k lowest bytes of the word at the front of a number's k bytes are that number
pub word_low : (bytes : List ℕ) (at k w : ℕ) (rest : List ℕ) → k ≤ 8 → w < 256 ^ k → drop at bytes ≡ le_bytes k w ++ rest → word_at bytes at % 256 ^ k ≡ w
unfolding word_at
word_low bytes at k w rest l h e =
    let b = le_bytes k w in
    let n : 8 ≡ length b + (8 - k) = omega (arith, length_bytes k w) in
    ap (λ (l : List ℕ). le_number (take 8 l) % 256 ^ k) e
    ∙ ap (λ (m : ℕ). le_number (take m (b ++ rest)) % 256 ^ k) n
    ∙ ap (λ (l : List ℕ). le_number l % 256 ^ k) (take-append-add b rest (8 - k))
    ∙ ap (λ (m : ℕ). m % 256 ^ k) (number_on k w (take (8 - k) rest) h)
    ∙ mul-add-mod_self_left (256 ^ k) (le_number (take (8 - k) rest)) w
    ∙ mod-eq_of_lt h

-- w without its j lowest digits
unfoldable pub shift : ℕ → ℕ → ℕ → ℕ
shift base zero w = w
shift base (suc j) w = shift base j (w / base)

pub shift_more : (base j w : ℕ) → shift base j w / base ≡ shift base (suc j) w
unfolding shift
shift_more base zero w = refl
shift_more base (suc j) w = shift_more base j (w / base)

-- a byte more, behind the lower ones
pub bytes_more : (j w : ℕ) → le_bytes (suc j) w ≡ le_bytes j w ++ (shift 256 j w % 256 ∷ [])
unfolding le_bytes shift
bytes_more zero w = refl
bytes_more (suc j) w = ap (λ (l : List ℕ). w % 256 ∷ l) (bytes_more j (w / 256))

-- bytes that fit, and that do not
pub put_fits : (bytes : List ℕ) (at k w : ℕ) → at + k ≤ length bytes → over bytes at (le_bytes k w) ≡ put_bytes bytes at k w
unfolding put_bytes
put_fits bytes at k w h = hit _ _ _ _ (le-leb (at + k) (length bytes) h) refl

pub put_short : (bytes : List ℕ) (at k w : ℕ) → length bytes < at + k → bytes ≡ put_bytes bytes at k w
unfolding put_bytes
put_short bytes at k w h = skip _ _ _ _ (lt-leb (at + k) (length bytes) h) refl

-- they change no length
pub length_put : (bytes : List ℕ) (at k w : ℕ) → length (put_bytes bytes at k w) ≡ length bytes
unfolding put_bytes
length_put bytes at k w =
    by_test (λ (l : List ℕ). length l ≡ length bytes) (leb (at + k) (length bytes)) _ _
    (λ t. length_over bytes at (le_bytes k w) (omega (arith, length_bytes k w, leb-true (at + k) (length bytes) t)))
    (λ t. refl)

-- reading what was put gives the word
pub word_put : (bytes : List ℕ) (at w : ℕ) → at + 8 ≤ length bytes → w < 2 ^ 64 → word_at (put_word bytes at w) at ≡ w
unfolding word_at
word_put bytes at w fits small =
    let b = le_bytes 8 w in
    let l : at + length b ≤ length bytes = omega (arith, length_bytes 8 w) in
    ap (λ (l : List ℕ). le_number (take 8 (drop at l))) (sym (put_fits bytes at 8 w fits))
    ∙ ap (λ (l : List ℕ). le_number (take 8 l)) (read_over bytes at b l)
    ∙ ap le_number (take_at b (drop (at + length b) bytes) 8 (length_bytes 8 w))
    ∙ bytes_again 8 w small

-- a word that begins past the end
pub word_past : (bytes : List ℕ) (at : ℕ) → length bytes ≤ at → 0 ≡ word_at bytes at
unfolding word_at le_number
word_past bytes at h = sym (ap (λ (l : List ℕ). le_number (take 8 l)) (drop_of_length-le bytes h))
