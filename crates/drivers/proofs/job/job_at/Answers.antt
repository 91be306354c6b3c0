-- `drivers::job::job_at` meets its contract. Assumes nothing.
use mathlib.Core.Path.{◌≡◌, ap, ◌∙◌}
use mathlib.Core.List.{List}
use Prim.Native.Nat.{ℕ, ◌<◌}
use lib.IntN.{ℤ, pos}
use lib.Ieee.{Float}
use mir.Syntax.{w32}
use mir.Val.{to_z, of_z}
use mir.Facts.{to_z-of_z}
use Rattle.numbers.specs.Bits.{word_at}
use Rattle.drivers.specs.Record.{half_at, number_at, fields_of, row_count, place}
use Rattle.drivers.specs.Job.{part_of, signed, options_of, job_at}
use Rattle.drivers.specs.declared.cutting_plane.Options.{Options}
use Rattle.drivers.specs.Rules.{bands_place, cursors_place, kappa_place, limits_place, n_place, settings_place}
use Rattle.drivers.proofs.job.Signs.{signed_fits, reads_half, part_small}
use Rattle.drivers.proofs.job.job_at.Goals as goal

-- a part of a word is below 2 ^ 16
small : (w k r : ℕ) → r ≡ part_of w k → r < 65536
small w k r e = rw e (part_small w k)

-- a band's end, and a cursor's position, read back
band : (w w' k h : ℕ) → w ≡ w' → h ≡ part_of w k → to_z w32 h ≡ pos (part_of w' k)
band w w' k h a b = reads_half h (small w k h b) ∙ ap pos (b ∙ ap (λ (z : ℕ). part_of z k) a)

cursor : (w w' k h : ℕ) (z : ℤ) → w ≡ w' → h ≡ part_of w k → z ≡ signed h → to_z w32 (of_z w32 z) ≡ signed (part_of w' k)
cursor w w' k h z a b d = rw (d, b, a) (to_z-of_z (signed_fits (part_of w' k) (part_small w' k)))

is : (bytes places : List ℕ) (n rows : ℕ) (np ns : ℤ) (x y z : Float) (p q r : ℤ) (k : Float) (o : Options)
    → n ≡ half_at bytes (place places n_place) → rows ≡ row_count bytes (fields_of bytes)
    → np ≡ pos (part_of (word_at bytes (place places bands_place)) 0) → ns ≡ pos (part_of (word_at bytes (place places bands_place)) 1)
    → x ≡ number_at bytes (place places limits_place) 0 → y ≡ number_at bytes (place places limits_place) 1 → z ≡ number_at bytes (place places limits_place) 2
    → p ≡ signed (part_of (word_at bytes (place places cursors_place)) 0) → q ≡ signed (part_of (word_at bytes (place places cursors_place)) 1) → r ≡ signed (part_of (word_at bytes (place places cursors_place)) 2)
    → k ≡ number_at bytes (place places kappa_place) 0 → o ≡ options_of bytes (place places settings_place)
    → record { n = n; rows = rows; nwpass = np; nwstop = ns; lp_sq = x; up_sq = y; sp_sq = z; cur1 = p; cur2 = q; cur3 = r; kappa = k; options = o } ≡ job_at bytes places
unfolding job_at
is bytes places n rows np ns x y z p q r k o e₁ e₂ e₃ e₄ e₅ e₆ e₇ e₈ e₉ f₁ f₂ f₃ = rw (e₁, e₂, e₃, e₄, e₅, e₆, e₇, e₈, e₉, f₁, f₂, f₃)

pub returns : goal.returns
returns c =
    is _ _ _ _ _ _ _ _ _ _ _ _ _ _ c.half_at.ensures c.count_rows.ensures
    (band _ _ 0 _ c.word_at-bands.ensures c.part.ensures) (band _ _ 1 _ c.word_at-bands.ensures c.part-2.ensures)
    c.number_at.ensures c.number_at-2.ensures c.number_at-3.ensures
    (cursor _ _ 0 _ _ c.word_at-curs.ensures c.part-3.ensures c.signed.ensures)
    (cursor _ _ 1 _ _ c.word_at-curs.ensures c.part-4.ensures c.signed-2.ensures)
    (cursor _ _ 2 _ _ c.word_at-curs.ensures c.part-5.ensures c.signed-3.ensures)
    c.number_at-4.ensures c.job_options.ensures
