-- What the loop of `numbers::sqrt::root_digits` keeps.
use Rattle.numbers.proofs.sqrt.Laws.{Digits}
use Rattle.numbers.proofs.sqrt.root_digits.Given as goal

abbrev pub invariant-loop : goal.invariant-loop
invariant-loop l = Digits l.m l.a l.rest l.d l.counter
