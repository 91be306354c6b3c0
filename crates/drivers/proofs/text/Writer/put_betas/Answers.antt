-- `drivers::text::Writer::put_betas` meets its contract. Assumes nothing.
use mathlib.Core.Path.{ap}
use mathlib.Core.List.{[], ◌∷◌}
use Rattle.drivers.specs.Text.{hex}
use Rattle.drivers.specs.laws.Writer.{puts_on, puts_same}
use Rattle.drivers.proofs.text.Writer.put_betas.Goals as goal

pub returns-in-Single : goal.returns-in-Single
returns-in-Single c =
    rw c.in-Single.is (puts_on (puts_same c.put_hex.ensures (ap (λ w. hex w ∷ []) c.to_bits.ensures)) c.put_text.ensures)

pub returns-in-Parallel : goal.returns-in-Parallel
returns-in-Parallel c =
    rw c.in-Parallel.is
    (puts_on (puts_on (puts_same c.put_hex-in-Parallel.ensures (ap (λ w. hex w ∷ []) c.to_bits-in-Parallel.ensures)) c.put_text-in-Parallel.ensures)
    (puts_same c.put_hex-in-Parallel-2.ensures (ap (λ w. hex w ∷ []) c.to_bits-in-Parallel-2.ensures)))
