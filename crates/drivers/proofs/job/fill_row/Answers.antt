-- `drivers::job::fill_row` meets its contract. Assumes nothing.
use mathlib.Core.Path.{◌≡◌, refl, sym, ap}
use mathlib.Core.Bool.{Bool, false, not}
use mathlib.Core.List.{List, append_assoc}
use Prim.Native.Nat.{ℕ, ◌≤◌, ◌+◌, ◌-◌, ◌*◌}
use native.Mathlib.Omega.{arith}
use borrow.Rule.Slice.PartMut.{put_mid}
use lib.ListN.{length, take, drop, length-drop}
use lib.Seq.{length-take-le, drop-drop}
use lib.Ieee.{Float}
use Rattle.drivers.specs.Record.{content_of, numbers_at, is_row, rows_in}
use Rattle.drivers.specs.laws.Record.{row_filled}
use borrow.Author.Rules.{rules}
use Rattle.numbers.specs.laws.Pick.{hit, skip, says_no, says_yes, is_hit}
use Rattle.drivers.proofs.job.fill_row.Goals as goal

module _ (bytes : List ℕ) (at n k : ℕ) (t : Bool) (e : t ≡ is_row bytes at) (y : not t ≡ false) where
  -- the row's place is in the table
  room : (l : ℕ) → k + rows_in bytes at * n ≤ l → k + n ≤ l
  room l h =
      let o : rows_in bytes at ≡ 1 = is_hit _ _ _ (says_yes t (is_row bytes at) e y) in
      go (rows_in bytes at) o h
    where
      go : (r : ℕ) → r ≡ 1 → k + r * n ≤ l → k + n ≤ l
      go r o h = let h' : k + 1 * n ≤ l = rw o at h in omega arith

  filled : (p : ℕ) (table ys : List Float) → p ≡ content_of bytes at → ys ≡ numbers_at bytes p (length (take (k + n - k) (drop k table)))
      → k + rows_in bytes at * n ≤ length table → (k + n, put_mid k (k + n - k) table ys) ≡ row_filled bytes at n k table
  unfolding row_filled
  filled p table ys a d h =
      hit _ _ _ _ (says_yes t (is_row bytes at) e y)
      (ap (λ (z : List Float). (k + n, z))
      (rw (d, a, m, length-take-le n (drop k table) (rw (length-drop k table) (omega (arith, room (length table) h))), drop-drop n k table)
      (sym (append_assoc (take k table) (numbers_at bytes (content_of bytes at) n) (drop (k + n) table)))))
    where
      m : k + n - k ≡ n
      m = omega arith

pub returns-then-not-is_row : goal.returns-then-not-is_row
unfolding row_filled
returns-then-not-is_row c = skip _ _ _ _ (says_no _ _ c.is_row.ensures (ap not c.if-not-is_row.true)) refl

pub slice_bounds-numbers_into-end : goal.slice_bounds-numbers_into-end
slice_bounds-numbers_into-end c =
    let h = room _ _ c.args.n c.args.k _ c.is_row.ensures (ap not c.if-not-is_row.false) _ c.requires.1 in
    search rules

pub returns : goal.returns
returns c =
    filled _ _ _ _ _ c.is_row.ensures (ap not c.if-not-is_row.false) _ _ _ c.content_at.ensures c.numbers_into.ensures c.requires.1
