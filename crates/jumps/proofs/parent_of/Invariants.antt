-- `jumps::parent_of`: the subtrees between p and i have come to their ends.
use Rattle.std.proofs.Common.{◌<◌}
use Rattle.jumps.proofs.Loops.{Closed}
use Rattle.jumps.proofs.parent_of.Given as goal

abbrev pub invariant-loop-p : goal.invariant-loop-p
invariant-loop-p l = (l.p < l.i) × Closed l.ends l.p l.i

abbrev pub decreases-loop-p : goal.decreases-loop-p
decreases-loop-p l = l.p
