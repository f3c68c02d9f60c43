-- `sets::lowest_left`: no number of the words passed is left.
use Rattle.sets.specs.Sets.{left_in}
use Rattle.sets.proofs.Members.{NoneBelow}
use Rattle.sets.proofs.lowest_left.Given as goal

abbrev pub invariant-loop-i : goal.invariant-loop-i
invariant-loop-i l = NoneBelow (left_in l.first l.second l.taken) l.i
