-- `words::numbers::all_digits`: the bytes passed are digits.
use Rattle.words.proofs.Digits.{Looked}
use Rattle.words.proofs.numbers.all_digits.Given as goal

abbrev pub invariant-loop-c : goal.invariant-loop-c
invariant-loop-c l = Looked l.word l.c-index
