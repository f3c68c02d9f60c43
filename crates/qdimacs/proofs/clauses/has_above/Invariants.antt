-- `qdimacs::clauses::has_above`: no number so far is above.
use Rattle.std.proofs.Common.{length, ◌-◌}
use Rattle.qdimacs.proofs.Counting.{Lower}
use Rattle.qdimacs.proofs.clauses.has_above.Given as goal

abbrev pub invariant-loop-at : goal.invariant-loop-at
invariant-loop-at l = Lower l.most l.b l.at

abbrev pub decreases-loop-at : goal.decreases-loop-at
decreases-loop-at l = length l.b - l.at
