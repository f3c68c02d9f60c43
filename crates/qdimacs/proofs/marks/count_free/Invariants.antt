-- `qdimacs::marks::count_free`: the free numbers below x are counted.
use Rattle.std.proofs.Common.{◌-◌}
use Rattle.qdimacs.proofs.Naming.{FreeSoFar}
use Rattle.qdimacs.proofs.marks.count_free.Given as goal

abbrev pub invariant-loop-x : goal.invariant-loop-x
invariant-loop-x l = FreeSoFar l.marks l.most l.count (l.x - 1)
