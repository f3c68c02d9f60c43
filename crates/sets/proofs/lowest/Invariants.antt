-- `sets::lowest`: the words passed are empty.
use Rattle.sets.specs.Sets.{holds}
use Rattle.sets.proofs.Members.{NoneBelow}
use Rattle.sets.proofs.lowest.Given as goal

abbrev pub invariant-loop-i : goal.invariant-loop-i
invariant-loop-i l = NoneBelow (holds l.set) l.i
