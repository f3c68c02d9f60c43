-- `qdimacs::write::clause_length`: so many words are passed.
use Rattle.std.proofs.Common.{length, ◌-◌}
use Rattle.qdimacs.proofs.WritingClauses.{Measured}
use Rattle.qdimacs.proofs.write.clause_length.Given as goal

abbrev pub invariant-loop-at : goal.invariant-loop-at
invariant-loop-at l = Measured l.b l.from l.n l.at

abbrev pub decreases-loop-at : goal.decreases-loop-at
decreases-loop-at l = length l.b - l.at
