-- What the loop of `drivers::text::Writer::put_digits` keeps: the digits from i to the end stand, in the slice that was lent.
use mathlib.Core.Path.{◌≡◌}
use Prim.Native.Nat.{◌≤◌}
use Rattle.drivers.proofs.text.Turns.{Down}
use Rattle.drivers.proofs.text.Writer.put_digits.Given as goal

abbrev pub invariant-loop-i : goal.invariant-loop-i
invariant-loop-i l = (l.at ≤ l.i) × Down l.base l.w l.initial.self.out.now l.self.out.now l.end l.i l.rest × (l.self.out.ghost_name ≡ l.initial.self.out.ghost_name)
