-- `qdimacs::write::write_bound`: the rows of the bindings so far are written.
use Rattle.std.proofs.Common.{◌≡◌, ◌-◌, length}
use Rattle.qdimacs.proofs.WritingPrefix.{BoundWritten}
use Rattle.rows.specs.Layouts.{rows_in}
use Rattle.qdimacs.proofs.write.write_bound.Given as goal

abbrev pub invariant-loop-at : goal.invariant-loop-at
invariant-loop-at l = BoundWritten l.b l.from (rows_in l.s l.initial.out) (rows_in l.s l.out) l.r l.state l.at × (length l.out ≡ length l.initial.out)

abbrev pub decreases-loop-at : goal.decreases-loop-at
decreases-loop-at l = length l.b - l.at
