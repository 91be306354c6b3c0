-- Rows looked at one after the other: a run by its first row, and a scan by its first run. Assumes nothing.
use mathlib.Core.Path.{◌≡◌, refl, sym, ap, ◌∙◌}
use Rattle.std.specs.Prelude.{Some, None, Option, is_some}
use mathlib.Core.Bool.{Bool, true, false, true≢false}
use mathlib.Core.List.{List}
use Prim.Native.Nat.{ℕ, zero, suc, ◌≤◌, ◌+◌}
use native.Mathlib.Nat.{zero-add, add-zero, suc-add}
use native.Mathlib.Omega.{arith}
use lib.IntN.{ℤ, pos, pred_ℤ, nat_abs}
use lib.Ieee.{Float, nan, inf, fin, lt}
use Rattle.numbers.specs.Pick.{pick}
use Rattle.numbers.specs.laws.Pick.{hit, skip}
use Rattle.oracles.specs.RoundRobin.{advanced}
use Rattle.oracles.specs.laws.RoundRobin.{canon, adv_next}
use Rattle.oracles.specs.Scan.{is_over, scan_from, broken_at}
use Rattle.numbers.specs.declared.arr.Four.{Four}
use Rattle.oracles.specs.Table.{value_of, four_values}
use Rattle.oracles.specs.laws.ScanRun.{limit_of, tested_by, judged_of, scan_run}
use Rattle.oracles.specs.declared.round_robin.RoundRobin.{RoundRobin}
use Rattle.oracles.specs.declared.scan.Scan.{Scan}

-- the scan s, or where it is not broken what the rows after it give
abbrev pub after : Scan → Scan → Scan
after s rest = pick (is_some s.viol) s rest

pub after_broken : (s rest : Scan) → is_some s.viol ≡ true → s ≡ after s rest
after_broken s rest b = hit _ _ _ _ b refl

pub after_whole : (s rest : Scan) → is_some s.viol ≡ false → rest ≡ after s rest
after_whole s rest b = skip _ _ _ _ b refl

-- after one scan and then another
after_after : (s t : Scan) (g : Scan → Scan) (rest : Scan) → rest ≡ after t (g t) → after s rest ≡ after (after s t) (g (after s t))
unfolding pick
after_after s t g rest e = go (is_some s.viol) refl
  where
    go : (b : Bool) → is_some s.viol ≡ b → pick b s rest ≡ after (pick b s t) (g (pick b s t))
    go true h = after_broken s (g s) h
    go false h = e

module _ (n : ℕ) (table x : List Float) (lower limit : Float) where
  abbrev judged : ℕ → Float → ℤ → Scan
  judged i f k = judged_of lower limit i (value_of n table x i) f k

  -- a judgement of row j with the value v, where they are row i and its value
  pub as_judged : (f : Float) {i j : ℕ} {v : Float} {k h : ℤ} {s : Scan} → j ≡ i → v ≡ value_of n table x j → h ≡ k → s ≡ judged_of lower limit j v f h → s ≡ judged i f k
  as_judged f ej ev eh e = rw (ev, ej, eh) at e

  module _ (i : ℕ) (f : Float) (k : ℤ) {s : Scan} (e : s ≡ judged i f k) where
    -- a run that ends at its first row
    pub run_ends : (m : ℕ) → is_some s.viol ≡ true → s ≡ scan_run n table x lower limit (suc m) i f k
    unfolding scan_run
    run_ends m b = e ∙ after_broken (judged i f k) _ (ap (λ (z : Scan). is_some z.viol) (sym e) ∙ b)

    -- one that goes on
    pub run_on : (m : ℕ) → is_some s.viol ≡ false → scan_run n table x lower limit m (suc i) s.fmax s.kmax ≡ scan_run n table x lower limit (suc m) i f k
    unfolding scan_run
    run_on m b =
        ap (λ (z : Scan). scan_run n table x lower limit m (suc i) z.fmax z.kmax) e
        ∙ after_whole (judged i f k) _ (ap (λ (z : Scan). is_some z.viol) (sym e) ∙ b)

    -- one row
    pub run_one : s ≡ scan_run n table x lower limit 1 i f k
    unfolding scan_run pick
    run_one = e ∙ go (lt limit (value_of n table x i)) (lt (value_of n table x i) lower)
      where
        go : (t u : Bool) → tested_by t u i (value_of n table x i) f k
            ≡ after (tested_by t u i (value_of n table x i) f k) (record { viol = None; fmax = (tested_by t u i (value_of n table x i) f k).fmax; kmax = (tested_by t u i (value_of n table x i) f k).kmax; last = pos i })
        go true u = refl
        go false true = refl
        go false false = refl

  -- where a run ends that breaks nothing
  pub run_last : (m i : ℕ) (f : Float) (k : ℤ) → is_some (scan_run n table x lower limit m i f k).viol ≡ false → (scan_run n table x lower limit m i f k).last ≡ pred_ℤ (pos (i + m))
  unfolding scan_run pick
  run_last zero i f k b = ap (λ (z : ℕ). pred_ℤ (pos z)) (sym (add-zero i))
  run_last (suc m) i f k b = go (is_some (judged i f k).viol) refl (run_last m (suc i) (judged i f k).fmax (judged i f k).kmax) b
    where
      rest : Scan
      rest = scan_run n table x lower limit m (suc i) (judged i f k).fmax (judged i f k).kmax

      go : (t : Bool) → is_some (judged i f k).viol ≡ t → (is_some rest.viol ≡ false → rest.last ≡ pred_ℤ (pos (suc i + m)))
          → is_some (pick t (judged i f k) rest).viol ≡ false → (pick t (judged i f k) rest).last ≡ pred_ℤ (pos (i + suc m))
      go true h r q = absurd (true≢false (sym h ∙ q))
      go false h r q = r q ∙ ap (λ (z : ℕ). pred_ℤ (pos z)) (let e : suc i + m ≡ i + suc m = omega arith in e)

-- ---- four rows, whose values are had first

next : (i : ℕ) → i + 1 ≡ suc i
next i = omega arith

next₂ : (i : ℕ) → i + 2 ≡ suc (suc i)
next₂ i = omega arith

next₃ : (i : ℕ) → i + 3 ≡ suc (suc (suc i))
next₃ i = omega arith

module _ (n : ℕ) (table x : List Float) (lower limit : Float) (row : ℕ) (f : Float) (k : ℤ) {values : Four} (ev : values ≡ four_values n table x row)
    {k₁ : ℤ} (e₁ : k₁ ≡ k) {s₁ : Scan} (t₁ : s₁ ≡ judged_of lower limit row values.a f k₁) where
  abbrev whole : Scan
  whole = scan_run n table x lower limit 4 row f k

  abbrev Judged : ℕ → Float → ℤ → Scan → Type 0
  Judged i f k s = s ≡ judged_of lower limit i (value_of n table x i) f k

  j₁ : Judged row f k s₁
  j₁ = as_judged n table x lower limit f refl (ap (λ (z : Four). z.a) ev) e₁ t₁

  pub ends_first : is_some s₁.viol ≡ true → s₁ ≡ whole
  ends_first b = run_ends n table x lower limit row f k j₁ 3 b

  module _ (b₁ : is_some s₁.viol ≡ false) {k₂ : ℤ} (e₂ : k₂ ≡ s₁.kmax) {s₂ : Scan} (t₂ : s₂ ≡ judged_of lower limit (row + 1) values.b s₁.fmax k₂) where
    j₂ : Judged (suc row) s₁.fmax s₁.kmax s₂
    j₂ = as_judged n table x lower limit s₁.fmax (next row) (ap (λ (z : Four). z.b) ev) e₂ t₂

    rest₁ : scan_run n table x lower limit 3 (suc row) s₁.fmax s₁.kmax ≡ whole
    rest₁ = run_on n table x lower limit row f k j₁ 3 b₁

    pub ends_second : is_some s₂.viol ≡ true → s₂ ≡ whole
    ends_second b = run_ends n table x lower limit (suc row) s₁.fmax s₁.kmax j₂ 2 b ∙ rest₁

    module _ (b₂ : is_some s₂.viol ≡ false) {k₃ : ℤ} (e₃ : k₃ ≡ s₂.kmax) {s₃ : Scan} (t₃ : s₃ ≡ judged_of lower limit (row + 2) values.c s₂.fmax k₃) where
      j₃ : Judged (suc (suc row)) s₂.fmax s₂.kmax s₃
      j₃ = as_judged n table x lower limit s₂.fmax (next₂ row) (ap (λ (z : Four). z.c) ev) e₃ t₃

      rest₂ : scan_run n table x lower limit 2 (suc (suc row)) s₂.fmax s₂.kmax ≡ whole
      rest₂ = run_on n table x lower limit (suc row) s₁.fmax s₁.kmax j₂ 2 b₂ ∙ rest₁

      pub ends_third : is_some s₃.viol ≡ true → s₃ ≡ whole
      ends_third b = run_ends n table x lower limit (suc (suc row)) s₂.fmax s₂.kmax j₃ 1 b ∙ rest₂

      pub ends_last : is_some s₃.viol ≡ false → {k₄ : ℤ} → k₄ ≡ s₃.kmax → {s₄ : Scan} → s₄ ≡ judged_of lower limit (row + 3) values.d s₃.fmax k₄ → s₄ ≡ whole
      ends_last b₃ e₄ t₄ =
          run_one n table x lower limit (suc (suc (suc row))) s₃.fmax s₃.kmax (as_judged n table x lower limit s₃.fmax (next₃ row) (ap (λ (z : Four). z.d) ev) e₄ t₄)
          ∙ run_on n table x lower limit (suc (suc row)) s₂.fmax s₂.kmax j₃ 1 b₃ ∙ rest₂

-- ---- a scan with the upper limit as a number

-- nothing lies above infinity
over_limit : (upper : Option Float) (v : Float) → is_over upper v ≡ lt (limit_of upper) v
unfolding lt
over_limit None nan = refl
over_limit None (inf s) = refl
over_limit None (fin s m e) = refl
over_limit (Some u) v = refl

pub by_limit : (n : ℕ) (table x : List Float) (lower : Float) (upper : Option Float) (left : ℕ) (c : RoundRobin) (f : Float) (k : ℤ)
    → scan_from n table x lower (Some (limit_of upper)) left c f k ≡ scan_from n table x lower upper left c f k
unfolding scan_from
by_limit n table x lower upper zero c f k = refl
by_limit n table x lower upper (suc left) c f k =
    rw (over_limit upper (value_of n table x (nat_abs (advanced c).cur)), by_limit n table x lower upper left (advanced c))

-- one of m rows and more, the m rows before the band's end
module _ (n : ℕ) (table x : List Float) (lower limit : Float) (from past : ℕ) where
  abbrev first : ℕ → Float → ℤ → Scan
  first i f k = judged_of lower limit i (value_of n table x i) f k

  abbrev scan : ℕ → ℕ → Float → ℤ → Scan
  scan left i f k = scan_from n table x lower (Some limit) left (canon from past i) f k

  scan_first : (left i : ℕ) (f : Float) (k : ℤ) → (i ≡ past → ⊥) → scan (suc left) i f k ≡ after (first i f k) (scan left (suc i) (first i f k).fmax (first i f k).kmax)
  unfolding scan_from pick
  scan_first left i f k h = rw (adv_next from past i h) (go (lt limit (value_of n table x i)) (lt (value_of n table x i) lower))
    where
      v : Float
      v = value_of n table x i

      go : (t u : Bool) → pick t (record { viol = broken_at i v true; fmax = f; kmax = k; last = pos i }) (pick u (record { viol = broken_at i v false; fmax = f; kmax = k; last = pos i })
          (scan left (suc i) (pick (lt f v) v f) (pick (lt f v) (pos i) k)))
          ≡ after (tested_by t u i v f k) (scan left (suc i) (tested_by t u i v f k).fmax (tested_by t u i v f k).kmax)
      go true u = refl
      go false true = refl
      go false false = refl

  abbrev run : ℕ → ℕ → Float → ℤ → Scan
  run m i f k = scan_run n table x lower limit m i f k

  pub by_run : (m left i : ℕ) (f : Float) (k : ℤ) → i + m ≤ past → scan (m + left) i f k ≡ after (run m i f k) (scan left (i + m) (run m i f k).fmax (run m i f k).kmax)
  unfolding scan_run pick
  by_run zero left i f k h = rw (zero-add left, add-zero i)
  by_run (suc m) left i f k h =
      let q : suc i + m ≡ i + suc m = omega arith in
      let s = first i f k in
      rw (suc-add m left)
      (scan_first (m + left) i f k (λ e. omega arith)
      ∙ after_after s (run m (suc i) s.fmax s.kmax) (λ (z : Scan). scan left (i + suc m) z.fmax z.kmax) _
      (rw q at (by_run m left (suc i) s.fmax s.kmax (omega arith))))
