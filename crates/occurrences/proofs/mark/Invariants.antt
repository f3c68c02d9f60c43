-- `occurrences::mark`: of the rows passed, each variable's last literal is in the table.
use Rattle.occurrences.specs.Occurrences.{Lasts, FirstsKept}
use Rattle.occurrences.proofs.mark.Given as goal

abbrev pub invariant-loop-i : goal.invariant-loop-i
invariant-loop-i l = Lasts l.s l.b l.i l.ranges × FirstsKept l.initial.ranges l.ranges
