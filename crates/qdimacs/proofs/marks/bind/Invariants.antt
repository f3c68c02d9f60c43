-- `qdimacs::marks::bind`: the numbers so far are marked.
use Rattle.std.proofs.Common.{length, ◌-◌}
use Rattle.qdimacs.proofs.Binding.{BoundSoFar}
use Rattle.qdimacs.proofs.marks.bind.Given as goal

abbrev pub invariant-loop-at : goal.invariant-loop-at
invariant-loop-at l = BoundSoFar l.b l.found l.marks l.state l.at

abbrev pub decreases-loop-at : goal.decreases-loop-at
decreases-loop-at l = length l.b - l.at
