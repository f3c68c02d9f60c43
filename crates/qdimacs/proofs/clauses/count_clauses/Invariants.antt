-- `qdimacs::clauses::count_clauses`: what is counted and what is left make up the whole.
use Rattle.std.proofs.Common.{length, ◌-◌}
use Rattle.qdimacs.proofs.Counting.{Counted}
use Rattle.qdimacs.proofs.clauses.count_clauses.Given as goal

abbrev pub invariant-loop-at : goal.invariant-loop-at
invariant-loop-at l = Counted l.b l.from l.c l.at

abbrev pub decreases-loop-at : goal.decreases-loop-at
decreases-loop-at l = length l.b - l.at
