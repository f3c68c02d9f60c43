-- `qdimacs::prefix::prefix_end`: the words so far are as they should be.
use Rattle.std.proofs.Common.{length, ◌-◌}
use Rattle.qdimacs.proofs.Cutting.{Prefixed}
use Rattle.qdimacs.proofs.prefix.prefix_end.Given as goal

abbrev pub invariant-loop-at : goal.invariant-loop-at
invariant-loop-at l = Prefixed l.b l.state l.at

abbrev pub decreases-loop-at : goal.decreases-loop-at
decreases-loop-at l = length l.b - l.at
