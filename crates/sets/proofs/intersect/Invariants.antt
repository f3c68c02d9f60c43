-- `sets::intersect`: the words passed are those of both.
use Rattle.std.proofs.Common.{length}
use Rattle.sets.proofs.Members.{Both}
use Rattle.sets.proofs.intersect.Given as goal

abbrev pub invariant-loop-i : goal.invariant-loop-i
invariant-loop-i l = Both l.first l.second l.i l.initial.set l.set
