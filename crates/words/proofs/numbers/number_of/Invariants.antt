-- `words::numbers::number_of`: the number that the bytes passed are, and digits left.
use Rattle.words.proofs.Digits.{Counted}
use Rattle.words.proofs.numbers.number_of.Given as goal

abbrev pub invariant-loop-c : goal.invariant-loop-c
invariant-loop-c l = Counted l.word l.c-index l.value
