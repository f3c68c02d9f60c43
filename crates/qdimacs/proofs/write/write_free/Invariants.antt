-- `qdimacs::write::write_free`: the rows of the free numbers below x are written.
use Rattle.std.proofs.Common.{◌≡◌, ◌-◌, length}
use Rattle.qdimacs.proofs.WritingPrefix.{FreeWritten}
use Rattle.rows.specs.Layouts.{rows_in}
use Rattle.qdimacs.proofs.write.write_free.Given as goal

abbrev pub invariant-loop-x : goal.invariant-loop-x
invariant-loop-x l = FreeWritten l.marks l.most (rows_in l.s l.initial.out) (rows_in l.s l.out) l.r (l.x - 1) × (length l.out ≡ length l.initial.out)
