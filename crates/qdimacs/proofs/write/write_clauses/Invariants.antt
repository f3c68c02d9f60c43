-- `qdimacs::write::write_clauses`: the rows written and those of the words left make up all.
use Rattle.std.proofs.Common.{◌≡◌, ◌-◌, length}
use Rattle.qdimacs.proofs.WritingClauses.{ClausesWritten}
use Rattle.rows.specs.Layouts.{rows_in}
use Rattle.qdimacs.proofs.write.write_clauses.Given as goal

abbrev pub invariant-loop-p : goal.invariant-loop-p
invariant-loop-p l = ClausesWritten l.b l.from l.r (rows_in l.s l.initial.out) (rows_in l.s l.out) l.p × (length l.out ≡ length l.initial.out)

abbrev pub decreases-loop-p : goal.decreases-loop-p
decreases-loop-p l = length l.b - l.p.at
