-- The turn of the scan's loop: where the cursor goes, and what the rows that are looked at leave to be found. Assumes nothing.
use mathlib.Core.Path.{◌≡◌, refl, sym, ap, ◌∙◌, subst}
use Rattle.std.specs.Prelude.{Some, None, Option, is_some}
use mathlib.Core.Bool.{true, false}
use mathlib.Core.List.{List}
use Prim.Native.Nat.{ℕ, zero, suc, ◌≤◌, ◌<◌, ◌+◌, ◌*◌, ◌-◌}
use native.Mathlib.Nat.{mul-le-mul_right}
use native.Mathlib.Omega.{arith}
use lib.Dec.{T}
use lib.IntN.{ℤ, pos, pred_ℤ, nat_abs, ◌-ℤ◌}
use lib.Signed.{non_neg}
use lib.ListN.{length}
use lib.Ieee.{Float}
use Rattle.oracles.specs.RoundRobin.{with_cur, advanced}
use Rattle.oracles.specs.laws.RoundRobin.{canon, legal_canon, adv_next, Legal}
use Rattle.oracles.specs.laws.ScanRows.{NextRow, next_row, band_count, Ready}
use Rattle.oracles.specs.Scan.{−∞, none, scan_from, scan_of}
use Rattle.oracles.specs.Table.{value_of}
use Rattle.oracles.specs.laws.ScanRun.{limit_of, judged_of, scan_run, RowsLeft}
use Rattle.oracles.specs.declared.round_robin.RoundRobin.{RoundRobin}
use Rattle.oracles.specs.declared.scan.Scan.{Scan}
use Rattle.oracles.proofs.scan.Run.{after, after_broken, after_whole, run_one, run_last, by_limit, by_run}

-- a scan of the band from .. past − 1 whose next row is `next`
rows_left : (n : ℕ) (table : List Float) (from past next left : ℕ) → from ≤ next → next ≤ past → past ≤ 1024 → left ≤ past - from → past * n ≤ length table → RowsLeft n table (canon from past next) left
rows_left n table from past next left a b s r h =
    record { legal = record { from = from; past = past; next = next; lo_is = refl; hi_is = refl; cur_is = refl; above = a; below = b; small = s }; room = r; high = h }

-- a scan goes by where its cursor goes
same_way : (n : ℕ) (table x : List Float) (lower : Float) (upper : Option Float) (left : ℕ) (c e : RoundRobin) (f : Float) (k : ℤ) → 0 < left → advanced c ≡ advanced e
    → scan_from n table x lower upper left c f k ≡ scan_from n table x lower upper left e f k
unfolding scan_from
same_way n table x lower upper zero c e f k h q = absurd (omega arith)
same_way n table x lower upper (suc left) c e f k h q = rw q refl

-- ---- a turn

module _ {n : ℕ} {table : List Float} (x : List Float) (lower limit : Float) {c : RoundRobin} {left : ℕ} (f : Float) (k : ℤ) {whole : Scan} (G : RowsLeft n table c left)
    (inv : scan_from n table x lower (Some limit) left c f k ≡ whole) where
  pub clear : left ≤ 0 → record { viol = None; fmax = f; kmax = k; last = c.cur } ≡ whole
  unfolding scan_from
  clear h = let e : left ≡ 0 = omega arith in rw e at inv

  module _ (some : 0 < left) {d : RoundRobin} (ed : d ≡ advanced c) where
    abbrev lo : ℕ
    lo = G.legal.from

    abbrev hi : ℕ
    hi = G.legal.past

    next : NextRow lo hi G.legal.next
    next = next_row lo hi G.legal.next G.legal.above G.legal.below (omega (arith, G.room))

    goes_to : d ≡ canon lo hi (suc next.row)
    goes_to = ed ∙ ap advanced (legal_canon c G.legal) ∙ next.goes

    stands : d.cur ≡ pos next.row
    stands = ap (λ (e : RoundRobin). e.cur) goes_to

    pub row_there : T (non_neg d.cur)
    row_there = rw stands tt

    pub legal_there : Legal d
    legal_there = subst Legal (sym goes_to) (rows_left n table lo hi (suc next.row) 0 (omega (arith, next.low)) next.high G.legal.small (omega arith) G.high).legal

    pub left_there : RowsLeft n table d (left - 1)
    left_there =
        subst (λ (e : RoundRobin). RowsLeft n table e (left - 1)) (sym goes_to)
        (rows_left n table lo hi (suc next.row) (left - 1) (omega (arith, next.low)) next.high G.legal.small (omega (arith, G.room)) G.high)

    module _ {row : ℕ} (er : row ≡ nat_abs d.cur) where
      row_is : row ≡ next.row
      row_is = er ∙ ap nat_abs stands

      low : lo ≤ row
      low = omega (arith, row_is, next.low)

      high : row < hi
      high = omega (arith, row_is, next.high)

      pub row_small : row < 1024
      row_small = omega (arith, high, G.legal.small)

      -- the scan from the cursor just before that row
      at_row : scan_from n table x lower (Some limit) left (canon lo hi row) f k ≡ whole
      at_row =
          let q : advanced (canon lo hi row) ≡ advanced c = adv_next lo hi row (λ z. omega (arith, high)) ∙ ap (λ (z : ℕ). canon lo hi (suc z)) row_is ∙ sym goes_to ∙ ed in
          same_way n table x lower (Some limit) left (canon lo hi row) c f k some q ∙ inv

      module _ {past : ℕ} (ep : d.hi ≡ pos past) where
        past_is : past ≡ hi
        past_is = ap nat_abs (sym ep ∙ ap (λ (e : RoundRobin). e.hi) goes_to)

        pub row_before_past : row < past
        row_before_past = omega (arith, high, past_is)

        module _ {many : ℕ} (within : many ≤ left) (ahead : many ≤ past - row) where
          fits : row + many ≤ hi
          fits = omega (arith, high, past_is)

          pub rows_small : row + many ≤ 1024
          rows_small = omega (arith, fits, G.legal.small)

          pub rows_in : row * n + many * n ≤ length table
          rows_in =
              let e : (row + many) * n ≡ row * n + many * n = omega arith in
              let h : (row + many) * n ≤ hi * n = mul-le-mul_right n fits in
              omega (arith, e, h, G.high)

          module _ {s : Scan} (es : s ≡ scan_run n table x lower limit many row f k) where
            opened : after s (scan_from n table x lower (Some limit) (left - many) (canon lo hi (row + many)) s.fmax s.kmax) ≡ whole
            opened =
                let l : many + (left - many) ≡ left = omega arith in
                rw es (sym (by_run n table x lower limit lo hi many (left - many) row f k fits) ∙ rw l at_row)

            pub ends : is_some s.viol ≡ true → s ≡ whole
            ends b = after_broken s _ b ∙ opened

            module _ (b : is_some s.viol ≡ false) where
              last_is : s.last ≡ pred_ℤ (pos (row + many))
              last_is = ap (λ (z : Scan). z.last) es ∙ run_last n table x lower limit many row f k (ap (λ (z : Scan). is_some z.viol) (sym es) ∙ b)

              -- the cursor after the last of the rows
              on : with_cur d s.last ≡ canon lo hi (row + many)
              on = λ i. record { cur = last_is i; lo = (goes_to i).lo; hi = (goes_to i).hi }

              -- of one row, it is where the cursor stands
              pub one_row : many ≡ 1 → d ≡ with_cur d s.last
              one_row e = goes_to ∙ ap (λ (z : ℕ). canon lo hi z) (let q : suc next.row ≡ row + many = omega (arith, row_is) in q) ∙ sym on

              still : {e : RoundRobin} → e ≡ with_cur d s.last → RowsLeft n table e (left - many)
              still {e} q =
                  subst (λ (z : RoundRobin). RowsLeft n table z (left - many)) (sym (q ∙ on))
                  (rows_left n table lo hi (row + many) (left - many) (omega (arith, low)) fits G.legal.small (omega (arith, G.room)) G.high)

              pub goes_on : {e : RoundRobin} → e ≡ with_cur d s.last → scan_from n table x lower (Some limit) (left - many) e s.fmax s.kmax ≡ whole
              goes_on {e} q = ap (λ (z : RoundRobin). scan_from n table x lower (Some limit) (left - many) z s.fmax s.kmax) (q ∙ on) ∙ after_whole s _ b ∙ opened

              -- both, as the loop has them
              pub turned : {e : RoundRobin} → e ≡ with_cur d s.last → RowsLeft n table e (left - many) × (scan_from n table x lower (Some limit) (left - many) e s.fmax s.kmax ≡ whole)
              turned q = (still q, goes_on q)

-- ---- the start

module _ {n : ℕ} {table x : List Float} {c : RoundRobin} (R : Ready n table x c) {lo hi : ℕ} (el : c.lo ≡ pos lo) (eh : c.hi ≡ pos hi) where
  from_is : R.legal.from ≡ lo
  from_is = ap nat_abs (sym R.legal.lo_is ∙ el)

  hi_is : R.legal.past ≡ hi
  hi_is = ap nat_abs (sym R.legal.hi_is ∙ eh)

  counted : nat_abs (c.hi -ℤ c.lo) ≡ hi - lo
  counted = band_count c R.legal ∙ (λ i. hi_is i - from_is i)

  pub starts : RowsLeft n table c (hi - lo)
  starts = record { legal = R.legal; room = omega (arith, from_is, hi_is); high = R.high }

  -- of a band with no rows
  pub empty : (lower : Float) (upper : Option Float) → hi - lo ≡ 0 → record { viol = None; fmax = −∞; kmax = none; last = c.cur } ≡ scan_of n table x c lower upper
  unfolding scan_of scan_from
  empty lower upper h = rw (counted, h) refl

  module _ (lower : Float) (upper : Option Float) {limit : Float} (em : limit ≡ limit_of upper) where
    pub start_is : scan_from n table x lower (Some limit) (hi - lo) c −∞ none ≡ scan_of n table x c lower upper
    unfolding scan_of
    start_is = rw (em, counted) (by_limit n table x lower upper (hi - lo) c −∞ none)

    -- ---- the first row
    module _ (some : hi - lo ≡ 0 → ⊥) {d : RoundRobin} (ed : d ≡ advanced c) {row : ℕ} (er : row ≡ nat_abs d.cur) where
      rows : 0 < hi - lo
      rows = omega (arith, some)

      past_there : d.hi ≡ pos hi
      unfolding advanced
      past_there = ap (λ (e : RoundRobin). e.hi) ed ∙ eh

      ahead : 1 ≤ hi - row
      ahead = omega (arith, row_before_past x lower limit −∞ none starts start_is rows ed er past_there)

      pub first_in : row * n + n ≤ length table
      first_in = omega (arith, rows_in x lower limit −∞ none starts start_is rows ed er past_there rows ahead)

      module _ {s : Scan} (es : s ≡ judged_of lower limit row (value_of n table x row) −∞ none) where
        one : s ≡ scan_run n table x lower limit 1 row −∞ none
        one = run_one n table x lower limit row −∞ none es

        pub first_ends : is_some s.viol ≡ true → s ≡ scan_of n table x c lower upper
        first_ends = ends x lower limit −∞ none starts start_is rows ed er past_there rows ahead one

        pub first_goes_on : is_some s.viol ≡ false → scan_from n table x lower (Some limit) (hi - lo - 1) d s.fmax s.kmax ≡ scan_of n table x c lower upper
        first_goes_on b = goes_on x lower limit −∞ none starts start_is rows ed er past_there rows ahead one b (one_row x lower limit −∞ none starts start_is rows ed er past_there rows ahead one b refl)
