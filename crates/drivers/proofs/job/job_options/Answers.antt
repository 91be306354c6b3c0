-- `drivers::job::job_options` meets its contract. Assumes nothing.
use mathlib.Core.Path.{◌≡◌, ◌∙◌}
use mathlib.Core.List.{List}
use Prim.Native.Nat.{ℕ, ◌<◌, ◌≤◌, ◌-◌, ◌%◌}
use native.Mathlib.Omega.{arith}
use lib.ListN.{length, take, drop, length-drop}
use lib.Seq.{take_all}
use lib.Ieee.{Float}
use Rattle.numbers.specs.Bits.{float_of, word_at}
use Rattle.numbers.specs.laws.Bits.{word_past}
use Rattle.drivers.specs.Job.{options_of}
use Rattle.drivers.specs.declared.cutting_plane.Options.{Options}
use Rattle.drivers.proofs.job.job_options.Goals as goal

module _ (bytes : List ℕ) (p : ℕ) (o : Options) where
  past : length bytes < p → o ≡ record { max_iters = 0; tolerance = float_of 0 } → o ≡ options_of bytes p
  unfolding options_of
  past h e =
      let l : length (drop p bytes) ≤ 0 = rw (length-drop p bytes) (omega arith) in
      e ∙ rw (← word_past (drop p bytes) 0 l, ← word_past (drop p bytes) 2 (omega arith))

  read : (w v : ℕ) (x : Float) → w ≡ word_at (take (length bytes - p) (drop p bytes)) 0 → v ≡ word_at (take (length bytes - p) (drop p bytes)) 2 → x ≡ float_of v
      → o ≡ record { max_iters = w % 65536; tolerance = x } → o ≡ options_of bytes p
  unfolding options_of
  read w v x a b d e =
      let t : take (length bytes - p) (drop p bytes) ≡ drop p bytes = take_all (length bytes - p) (drop p bytes) (rw (length-drop p bytes) (omega arith)) in
      e ∙ rw (d, a, b, t)

pub returns : goal.returns
returns c =
    read _ _ _ _ _ _ c.word_at.ensures c.word_at-2.ensures c.of_bits.ensures c.new-2.ensures

pub returns-then-bytes-p : goal.returns-then-bytes-p
returns-then-bytes-p c = past _ _ _ c.if-bytes-p.true c.new.ensures
