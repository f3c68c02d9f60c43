-- `renaming::numbers::next_unused`: the numbers passed are in the set.
use Rattle.renaming.proofs.Renumbering.{Passing}
use Rattle.renaming.proofs.numbers.next_unused.Given as goal

abbrev pub invariant-loop-n : goal.invariant-loop-n
invariant-loop-n l = Passing l.used l.highest l.from l.n
