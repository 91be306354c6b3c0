-- What the loop of `drivers::record::whole_numbers_into` keeps: the numbers below k are written.
use Rattle.numbers.specs.laws.Arr.{FilledTo}
use Rattle.drivers.specs.Record.{number_at}
use Rattle.drivers.proofs.record.whole_numbers_into.Given as goal

abbrev pub invariant-loop-k : goal.invariant-loop-k
invariant-loop-k l = FilledTo (λ k. number_at l.bytes l.p k) l.initial.out l.out l.k
