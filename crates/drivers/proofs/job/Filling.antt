-- How far the rows of a job have filled the table. Assumes nothing.
use mathlib.Core.Path.{◌≡◌, refl, sym, ap, ◌∙◌}
use mathlib.Core.Bool.{true, false}
use mathlib.Core.List.{List, [], ◌∷◌, ◌++◌, append_assoc, append-nil}
use Prim.Native.Nat.{ℕ, ◌≤◌, ◌+◌, ◌*◌}
use native.Mathlib.Omega.{arith}
use lib.ListN.{length, take, drop, length-append, length-drop, take-append-drop}
use lib.Seq.{length-take-le, take_at, drop_at, drop-drop}
use lib.Ieee.{Float}
use Rattle.numbers.specs.Pick.{pick}
use Rattle.numbers.specs.laws.Arr.{length_tab}
use Rattle.numbers.specs.laws.Pick.{is_hit, is_skip, by_test}
use Rattle.drivers.specs.Record.{content_of, number_at, numbers_at, fields_of, is_row, rows_in, row_count, rows_of, fronted}
use Rattle.drivers.specs.laws.Record.{row_filled}
use Rattle.numbers.specs.laws.Over.{over_front}

-- the fields before those that are left have filled the table up to k
pub record Filling (bytes : List ℕ) (n : ℕ) (table₀ : List Float) (left : List ℕ) (kt : ℕ × List Float) : Type 0 where
  pub long : length kt.1 ≡ length table₀
  pub room : kt.0 + row_count bytes left * n ≤ length table₀
  pub front : take kt.0 kt.1 ++ rows_of n bytes left ≡ rows_of n bytes (fields_of bytes)
  pub rest : drop kt.0 kt.1 ≡ drop kt.0 table₀

module _ (bytes : List ℕ) (n : ℕ) (table₀ : List Float) where
  pub starts : (left : List ℕ) → left ≡ fields_of bytes → row_count bytes (fields_of bytes) * n ≤ length table₀ → Filling bytes n table₀ left (0, table₀)
  starts left e h = rw e (record { long = refl; room = omega (arith, h); front = refl; rest = refl })

  module _ (all : List ℕ) (k : ℕ) (table : List Float) (f : Filling bytes n table₀ all (k, table)) (at : ℕ) (rest : List ℕ) (is : all ≡ at ∷ rest) where
    pub count_turn : row_count bytes all ≡ rows_in bytes at + row_count bytes rest
    unfolding row_count
    count_turn = ap (row_count bytes) is

    pub fits : k + rows_in bytes at * n ≤ length table
    fits = go (row_count bytes all) (rows_in bytes at) (row_count bytes rest) count_turn f.room
      where
        go : (s r t : ℕ) → s ≡ r + t → k + s * n ≤ length table₀ → k + r * n ≤ length table
        go s r t e l = let l' : k + (r + t) * n ≤ length table₀ = rw e at l in omega (arith, f.long)

    pub rows_turn : (xs : List Float) → pick (is_row bytes at) (numbers_at bytes (content_of bytes at) n) [] ≡ xs
        → rows_of n bytes all ≡ xs ++ rows_of n bytes rest
    unfolding rows_of
    rows_turn xs e = ap (rows_of n bytes) is ∙ ap (λ (z : List Float). z ++ rows_of n bytes rest) e

    -- the room after r rows more
    pub left_room : (r : ℕ) → rows_in bytes at ≡ r → k + r * n + row_count bytes rest * n ≤ length table₀
    left_room r e = go (row_count bytes all) (row_count bytes rest) (rw (← e) count_turn) f.room
      where
        go : (s t : ℕ) → s ≡ r + t → k + s * n ≤ length table₀ → k + r * n + t * n ≤ length table₀
        go s t e l = let l' : k + (r + t) * n ≤ length table₀ = rw e at l in omega arith

    pub row : is_row bytes at ≡ true → Filling bytes n table₀ rest (k + n, take k table ++ numbers_at bytes (content_of bytes at) n ++ drop (k + n) table)
    row t = record {
      long = length-append (take k table ++ xs) (drop (k + n) table) ∙ omega (arith, more, whole, length-drop (k + n) table, f.long);
      room = omega (arith, more);
      front =
          ap (λ (z : List Float). z ++ tail) (take_at (take k table ++ xs) (drop (k + n) table) (k + n) whole) ∙ append_assoc (take k table) xs tail
          ∙ ap (λ (z : List Float). take k table ++ z) (sym (rows_turn xs (is_hit _ _ _ t))) ∙ f.front;
      rest =
          drop_at (take k table ++ xs) (drop (k + n) table) (k + n) whole ∙ sym (drop-drop n k table) ∙ ap (λ (z : List Float). drop n z) f.rest ∙ drop-drop n k table₀;
    }
      where
        xs : List Float
        xs = numbers_at bytes (content_of bytes at) n

        tail : List Float
        tail = rows_of n bytes rest

        more : k + 1 * n + row_count bytes rest * n ≤ length table₀
        more = left_room 1 (is_hit _ _ _ t)

        whole : length (take k table ++ numbers_at bytes (content_of bytes at) n) ≡ k + n
        whole = length-append (take k table) xs ∙ omega (arith, length-take-le k table (omega (arith, more, f.long)), length_tab (λ j. number_at bytes (content_of bytes at) j) n)

    pub other : is_row bytes at ≡ false → Filling bytes n table₀ rest (k, table)
    other t = record {
      long = f.long;
      room = omega (arith, left_room 0 (is_skip _ _ _ t));
      front = ap (λ (z : List Float). take k table ++ z) (sym (rows_turn [] (is_skip _ _ _ t))) ∙ f.front;
      rest = f.rest;
    }

    pub turn : (kt : ℕ × List Float) → kt ≡ row_filled bytes at n k table → Filling bytes n table₀ rest kt
    unfolding row_filled
    turn kt e = rw e (by_test (Filling bytes n table₀ rest) (is_row bytes at) _ _ row other)

  pub done : (left : List ℕ) (k : ℕ) (table : List Float) → Filling bytes n table₀ left (k, table) → left ≡ [] → table ≡ fronted (rows_of n bytes (fields_of bytes)) table₀
  unfolding rows_of
  done left k table f h =
      let all = rows_of n bytes (fields_of bytes) in
      let a : take k table ≡ all = sym (append-nil (take k table)) ∙ ap (λ (l : List ℕ). take k table ++ rows_of n bytes l) (sym h) ∙ f.front in
      let b : length all ≡ k = ap length (sym a) ∙ length-take-le k table (omega (arith, f.room, f.long)) in
      sym (take-append-drop k table) ∙ (λ i. a i ++ f.rest i) ∙ ap (λ (m : ℕ). all ++ drop m table₀) (sym b) ∙ sym (over_front table₀ all)
