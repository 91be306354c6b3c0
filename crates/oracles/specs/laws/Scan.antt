-- Laws of a scan, for every legal cursor of a band: what it finds, where it leaves the cursor, and its largest value. Assumes nothing.
use Rattle.std.specs.Prelude.{◌≡◌, Bool, ◌||◌, ◌⊎◌, List, ℤ, pos, Float, None, Option}
use Rattle.std.proofs.Math.Path.{refl, ap}
use Rattle.std.proofs.Common.{sym, ◌∙◌, true≢false}
use Rattle.std.proofs.Math.Bool.{true, false}
use Rattle.std.proofs.Math.Logic.{inl, inr}
use Prim.Native.Nat.{ℕ, zero, suc, ◌≤◌, ◌<◌, ◌-◌}
use Rattle.std.proofs.Math.Decide.{dec_lt}
use native.Mathlib.Omega.{arith}
use Rattle.std.proofs.Math.IntN.{pred_ℤ}
use Rattle.std.specs.Float.Ieee.{lt, is_nan}
use Rattle.numbers.specs.Pick.{pick, some}
use Rattle.numbers.specs.laws.Pick.{none_some, some_holds}
use Rattle.oracles.specs.RoundRobin.{is_band, is_at, with_cur}
use Rattle.oracles.specs.laws.RoundRobin.{canon, legal_canon, legal_band, legal_at, Legal}
use Rattle.oracles.specs.laws.ScanRows.{Ready, band_count, Seen, NextRow, next_row}
use Rattle.oracles.specs.laws.FloatOrder.{nlt_trans, lt_asym, lt_irrefl, above_compares}
use Rattle.oracles.specs.Scan.{−∞, none, is_over, scan_from, scan_of, broken_at}
use Rattle.oracles.specs.Table.{value_of}
use Rattle.oracles.specs.declared.round_robin.RoundRobin.{RoundRobin}
use Rattle.oracles.specs.declared.scan.Scan.{Scan}
use Rattle.oracles.specs.declared.scan.Violation.{Violation}

-- ---- one row of a scan

-- the largest value so far and its row, after row i with the value v
abbrev best : Float → Float → Float
best fmax v = pick (lt fmax v) v fmax

abbrev best_row : Float → ℤ → ℕ → Float → ℤ
best_row fmax kmax i v = pick (lt fmax v) (pos i) kmax

-- a scan that ends at row i
abbrev ended : ℕ → Float → Bool → Float → ℤ → Scan
ended i v over fmax kmax = record { viol = broken_at i v over; fmax = fmax; kmax = kmax; last = pos i }

-- the two answers of a scan differ
nothing_broken : (i : ℕ) (v : Float) (over : Bool) → None ≡ broken_at i v over → ⊥
nothing_broken i v over e = let z : ◌≡◌ {A = ℕ} 0 1 = cc in omega arith

module _ (n : ℕ) (table x : List Float) (lower : Float) (upper : Option Float) where
  -- row i's value
  abbrev val : ℕ → Float
  val i = value_of n table x i

  -- what holds of each way through a row holds of the scan
  turn : (P : Scan → Type 0) (left from past k : ℕ) (fmax : Float) (kmax : ℤ) (o : NextRow from past k)
      → (is_over upper (val o.row) ≡ true → P (ended o.row (val o.row) true fmax kmax))
      → (is_over upper (val o.row) ≡ false → lt (val o.row) lower ≡ true → P (ended o.row (val o.row) false fmax kmax))
      → (is_over upper (val o.row) ≡ false → lt (val o.row) lower ≡ false
      → P (scan_from n table x lower upper left (canon from past (suc o.row)) (best fmax (val o.row)) (best_row fmax kmax o.row (val o.row))))
      → P (scan_from n table x lower upper (suc left) (canon from past k) fmax kmax)
  unfolding scan_from pick
  turn P left from past k fmax kmax o over under on = rw o.goes (go (is_over upper (val o.row)) (lt (val o.row) lower) refl refl)
    where
      go : (s t : Bool) → is_over upper (val o.row) ≡ s → lt (val o.row) lower ≡ t
          → P (pick s (ended o.row (val o.row) true fmax kmax) (pick t (ended o.row (val o.row) false fmax kmax)
          (scan_from n table x lower upper left (canon from past (suc o.row)) (best fmax (val o.row)) (best_row fmax kmax o.row (val o.row)))))
      go true t es et = over es
      go false true es et = under es et
      go false false es et = on es et

-- ---- what holds wherever a scan of the band from .. past − 1 ends
module _ (n : ℕ) (table x : List Float) (from past : ℕ) where
  -- a row of the band breaks a limit, the upper one where `over` is true, and the cursor stands there
  pub record Found (lower : Float) (upper : Option Float) (row : ℕ) (v : Float) (over : Bool) (last : ℤ) : Type 0 where
    pub low : from ≤ row
    pub high : row < past
    pub value_is : v ≡ value_of n table x row
    pub above : over ≡ true → is_over upper v ≡ true
    pub below : over ≡ false → (is_over upper v ≡ false) × (lt v lower ≡ true)
    pub last_is : last ≡ pos row

  -- a row of the band has the largest value so far
  pub record Best (fmax : Float) (kmax : ℤ) : Type 0 where
    pub row : ℕ
    pub row_is : kmax ≡ pos row
    pub low : from ≤ row
    pub high : row < past
    pub value_is : value_of n table x row ≡ fmax
    pub compares : is_nan fmax ≡ false

  -- −∞ and none before the first value that compares with it
  abbrev pub Top : Float → ℤ → Type 0
  Top fmax kmax = ((fmax ≡ −∞) × (kmax ≡ none)) ⊎ Best fmax kmax

  -- after row i
  top_on : (i : ℕ) (fmax : Float) (kmax : ℤ) → from ≤ i → i < past → Top fmax kmax → Top (best fmax (value_of n table x i)) (best_row fmax kmax i (value_of n table x i))
  unfolding pick
  top_on i fmax kmax a b t = go (lt fmax (value_of n table x i)) refl
    where
      go : (s : Bool) → lt fmax (value_of n table x i) ≡ s → Top (pick s (value_of n table x i) fmax) (pick s (pos i) kmax)
      go true e = inr (record { row = i; row_is = refl; low = a; high = b; value_is = refl; compares = above_compares fmax (value_of n table x i) e })
      go false e = t

  -- the violation, the largest value, and a cursor that is still legal
  record Sound (lower : Float) (upper : Option Float) (s : Scan) : Type 0 where
    broken : (row : ℕ) (v : Float) (over : Bool) → s.viol ≡ broken_at row v over → Found lower upper row v over s.last
    top : Top s.fmax s.kmax
    next : ℕ
    last_is : s.last ≡ pred_ℤ (pos next)
    above : from ≤ next
    below : next ≤ past

  module _ (lower : Float) (upper : Option Float) where
    -- at row i, with a violation
    sound_end : (i : ℕ) (over : Bool) (fmax : Float) (kmax : ℤ) → from ≤ i → i < past → Top fmax kmax
        → (over ≡ true → is_over upper (value_of n table x i) ≡ true)
        → (over ≡ false → (is_over upper (value_of n table x i) ≡ false) × (lt (value_of n table x i) lower ≡ true))
        → Sound lower upper (ended i (value_of n table x i) over fmax kmax)
    sound_end i over fmax kmax a b t above below = record { broken = found; top = t; next = suc i; last_is = refl; above = omega arith; below = b }
      where
        found : (row : ℕ) (v : Float) (o : Bool) → broken_at i (value_of n table x i) over ≡ broken_at row v o → Found lower upper row v o (pos i)
        found row v o e =
            let p : ◌≡◌ {A = Violation} (record { row = i; value = value_of n table x i; is_over = over }) (record { row = row; value = v; is_over = o }) = cc in
            let ei : i ≡ row = ap (λ (w : Violation). w.row) p in
            let ev : value_of n table x i ≡ v = ap (λ (w : Violation). w.value) p in
            let eo : over ≡ o = ap (λ (w : Violation). w.is_over) p in
            record { low = rw (← ei) a; high = rw (← ei) b; value_is = rw ei at (sym ev); above = rw (eo, ev) at above; below = rw (eo, ev) at below; last_is = rw ei }

    -- wherever it begins
    sound : (left k : ℕ) (fmax : Float) (kmax : ℤ) → from ≤ k → k ≤ past → left ≤ past - from → Top fmax kmax
        → Sound lower upper (scan_from n table x lower upper left (canon from past k) fmax kmax)
    unfolding scan_from
    sound zero k fmax kmax a b m t = record { broken = λ i v over e. absurd (nothing_broken i v over e); top = t; next = k; last_is = refl; above = a; below = b }
    sound (suc left) k fmax kmax a b m t =
        let o = next_row from past k a b (omega arith) in
        turn n table x lower upper (Sound lower upper) left from past k fmax kmax o
        (λ s. sound_end o.row true fmax kmax o.low o.high t (λ e. s) (λ e. absurd (true≢false e)))
        (λ s u. sound_end o.row false fmax kmax o.low o.high t (λ e. absurd (true≢false (sym e))) (λ e. (s, u)))
        (λ s u. sound left (suc o.row) (best fmax (value_of n table x o.row)) (best_row fmax kmax o.row (value_of n table x o.row))
        (omega arith) (omega arith) (omega arith) (top_on o.row fmax kmax o.low o.high t))

-- ---- a scan that finds nothing

-- the larger of a number and a value that may be NaN
record Larger (fmax v top : Float) : Type 0 where
  compares : is_nan top ≡ false
  keeps : lt top fmax ≡ false
  takes : lt top v ≡ false

larger : (fmax v : Float) → is_nan fmax ≡ false → Larger fmax v (best fmax v)
unfolding pick
larger fmax v h = go (lt fmax v) refl
  where
    go : (b : Bool) → lt fmax v ≡ b → Larger fmax v (pick b v fmax)
    go true e = record { compares = above_compares fmax v e; keeps = lt_asym fmax v e; takes = lt_irrefl v }
    go false e = record { compares = h; keeps = lt_irrefl fmax; takes = e }

module _ (n : ℕ) (table x : List Float) (lower : Float) (upper : Option Float) where
  -- row i breaks no limit, and its value is not above the largest
  pub record Passed (fmax : Float) (i : ℕ) : Type 0 where
    pub not_over : is_over upper (value_of n table x i) ≡ false
    pub not_under : lt (value_of n table x i) lower ≡ false
    pub not_above : lt fmax (value_of n table x i) ≡ false

  module _ (from past : ℕ) where
    -- so with all rows that the scan has seen, and the largest value has not become less
    record Clear (k left : ℕ) (fmax fmax' : Float) : Type 0 where
      each : (i : ℕ) → from ≤ i → i < past → Seen from past k left i → Passed fmax' i
      keeps : lt fmax' fmax ≡ false

    clear : (left k : ℕ) (fmax : Float) (kmax : ℤ) → from ≤ k → k ≤ past → left ≤ past - from → is_nan fmax ≡ false
        → (scan_from n table x lower upper left (canon from past k) fmax kmax).viol ≡ None
        → Clear k left fmax (scan_from n table x lower upper left (canon from past k) fmax kmax).fmax
    unfolding scan_from
    clear zero k fmax kmax a b m h = λ e. record { each = λ i u w s. absurd (unseen i u s); keeps = lt_irrefl fmax }
      where
        unseen : (i : ℕ) → from ≤ i → Seen from past k 0 i → ⊥
        unseen i u (inl s) = omega arith
        unseen i u (inr s) = omega arith
    clear (suc left) k fmax kmax a b m h =
        let o = next_row from past k a b (omega arith) in
        let v = value_of n table x o.row in
        let g = larger fmax v h in
        turn n table x lower upper (λ s. s.viol ≡ None → Clear k (suc left) fmax s.fmax) left from past k fmax kmax o
        (λ s e. absurd (nothing_broken o.row v true (sym e)))
        (λ s u e. absurd (nothing_broken o.row v false (sym e)))
        (λ s u e. on o s u g (clear left (suc o.row) (best fmax v) (best_row fmax kmax o.row v) (omega arith) (omega arith) (omega arith) g.compares e))
      where
        on : {fmax' : Float} (o : NextRow from past k) → is_over upper (value_of n table x o.row) ≡ false → lt (value_of n table x o.row) lower ≡ false
            → Larger fmax (value_of n table x o.row) (best fmax (value_of n table x o.row))
            → Clear (suc o.row) left (best fmax (value_of n table x o.row)) fmax' → Clear k (suc left) fmax fmax'
        on {fmax'} o s u g r =
            let v = value_of n table x o.row in
            let here : Passed fmax' o.row = record { not_over = s; not_under = u; not_above = nlt_trans v (best fmax v) fmax' g.compares g.takes r.keeps } in
            record {
              each = λ i p q seen. elim (o.rest left i p q seen) [ inl e ↦ rw (← e) here | inr more ↦ r.each i p q more ];
              keeps = nlt_trans fmax (best fmax v) fmax' g.compares g.keeps r.keeps;
            }

-- ---- the scan of a whole band, from any legal cursor

-- whether row i breaks a limit
abbrev pub row_breaks : ℕ → List Float → List Float → Float → Option Float → ℕ → Bool
row_breaks n table x lower upper i = is_over upper (value_of n table x i) || lt (value_of n table x i) lower

-- the cursor c as a scan leaves it: legal over the same band
pub record LeftAt (c : RoundRobin) (L : Legal c) (last : ℤ) : Type 0 where
  pub legal : Legal (with_cur c last)
  pub from_is : legal.from ≡ L.from
  pub past_is : legal.past ≡ L.past
  pub at : is_at (with_cur c last) ≡ true
  pub band : is_band (with_cur c last).lo (with_cur c last).hi ≡ true

module _ (n : ℕ) (table x : List Float) (c : RoundRobin) (lower : Float) (upper : Option Float) (L : Legal c) where
  -- it begins at the cursor's next row
  scan_is : scan_of n table x c lower upper ≡ scan_from n table x lower upper (L.past - L.from) (canon L.from L.past L.next) −∞ none
  unfolding scan_of
  scan_is = ap (λ m. scan_from n table x lower upper m c −∞ none) (band_count c L) ∙ ap (λ d. scan_from n table x lower upper (L.past - L.from) d −∞ none) (legal_canon c L)

  scan_sound : Sound n table x L.from L.past lower upper (scan_of n table x c lower upper)
  scan_sound = rw scan_is (sound n table x L.from L.past lower upper (L.past - L.from) L.next −∞ none L.above L.below (omega arith) (inl (refl, refl)))

  -- a violation is a row of the band
  pub found_in : (row : ℕ) (v : Float) (over : Bool) → (scan_of n table x c lower upper).viol ≡ broken_at row v over
      → Found n table x L.from L.past lower upper row v over (scan_of n table x c lower upper).last
  found_in row v over e = scan_sound.broken row v over e

  pub broken_in : (row : ℕ) (v : Float) (over : Bool) → (scan_of n table x c lower upper).viol ≡ broken_at row v over → (L.from ≤ row) × (row < L.past)
  broken_in row v over e = let f = found_in row v over e in (f.low, f.high)

  -- the largest value before a violation, and its row
  pub top_in : Top n table x L.from L.past (scan_of n table x c lower upper).fmax (scan_of n table x c lower upper).kmax
  top_in = scan_sound.top

  -- where the cursor is left, another scan may begin
  pub last_legal : LeftAt c L (scan_of n table x c lower upper).last
  last_legal = record { legal = l; from_is = refl; past_is = refl; at = legal_at (with_cur c (scan_of n table x c lower upper).last) l; band = legal_band c L }
    where
      l : Legal (with_cur c (scan_of n table x c lower upper).last)
      l = record {
        from = L.from;
        past = L.past;
        next = scan_sound.next;
        lo_is = L.lo_is;
        hi_is = L.hi_is;
        cur_is = scan_sound.last_is;
        above = scan_sound.above;
        below = scan_sound.below;
        small = L.small;
      }

  -- nothing is found: each row of the band has passed, and the largest value is that of all of them
  pub passed_in : (scan_of n table x c lower upper).viol ≡ None → (i : ℕ) → L.from ≤ i → i < L.past → Passed n table x lower upper (scan_of n table x c lower upper).fmax i
  unfolding is_nan
  passed_in e i a b =
      let r = clear n table x lower upper L.from L.past (L.past - L.from) L.next −∞ none L.above L.below (omega arith) refl (rw scan_is at e) in
      rw scan_is (r.each i a b (whole i a b))
    where
      whole : (i : ℕ) → L.from ≤ i → i < L.past → Seen L.from L.past L.next (L.past - L.from) i
      whole i a b = elim (dec_lt i L.next) [ yes l ↦ inr (omega arith) | no g ↦ inl (omega arith) ]

  -- so it finds nothing exactly where no row of the band breaks a limit: one way
  pub nothing_none : (scan_of n table x c lower upper).viol ≡ None → some (row_breaks n table x lower upper) L.from (L.past - L.from) ≡ false
  nothing_none e = none_some (row_breaks n table x lower upper) L.from (L.past - L.from) (λ i a b. let p = passed_in e i a (omega arith) in rw p.not_over p.not_under)

  -- and the other
  pub broken_some : (row : ℕ) (v : Float) (over : Bool) → (scan_of n table x c lower upper).viol ≡ broken_at row v over
      → some (row_breaks n table x lower upper) L.from (L.past - L.from) ≡ true
  broken_some row v over e =
      let f = found_in row v over e in
      some_holds (row_breaks n table x lower upper) L.from (L.past - L.from) row f.low (omega arith) (rw (← f.value_is) (go over f.above f.below))
    where
      go : (o : Bool) → (o ≡ true → is_over upper v ≡ true) → (o ≡ false → (is_over upper v ≡ false) × (lt v lower ≡ true)) → (is_over upper v || lt v lower) ≡ true
      go true above below = rw (above refl)
      go false above below = rw (below refl).0 (below refl).1

-- the rows of a band can be read again after a scan
pub left_ready : (n : ℕ) (table x : List Float) (c : RoundRobin) (lower : Float) (upper : Option Float) → Ready n table x c → Ready n table x (with_cur c (scan_of n table x c lower upper).last)
left_ready n table x c lower upper R =
    let l = last_legal n table x c lower upper R.legal in
    record { legal = l.legal; high = rw l.past_is R.high }
