-- `qdimacs::marks::name`: the numbers so far that are not bound are marked as free.
use Rattle.std.proofs.Common.{length, ◌-◌}
use Rattle.qdimacs.proofs.Naming.{NamedSoFar}
use Rattle.qdimacs.proofs.marks.name.Given as goal

abbrev pub invariant-loop-at : goal.invariant-loop-at
invariant-loop-at l = NamedSoFar l.b l.from l.initial.marks l.marks l.at

abbrev pub decreases-loop-at : goal.decreases-loop-at
decreases-loop-at l = length l.b - l.at
